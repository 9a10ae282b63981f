-- A list with room for N items: it has at most N, and what it has when more are added at its end.
use Rattle.std.proofs.Common.{◌≡◌, ℕ, ◌+◌, ◌-◌, ◌≤◌, List, ◌++◌, length, take, min, sym, ap, ◌∙◌, arith}
use Rattle.std.proofs.Math.Seq.{take-append-add}
use Rattle.std.proofs.lemmas.List.{take_min, take-append-le, length-take-le, take_all}
use Rattle.fixed_vec.specs.Lists.{list_of}
use Rattle.fixed_vec.specs.declared.FixedVec.{FixedVec}

pub room : {T : Type 0} {N : ℕ} (v : FixedVec T N) → length (list_of v) ≤ N
room v = omega (arith, length-take-le v.len v.items (omega (arith, v.whole, v.short)), v.short)

-- the first n of the items stand behind the first a of the old ones, n being what there is room for
pub filled : {T : Type 0} (N a n : ℕ) (old items rest : List T) → a ≤ length old → a ≤ N → n ≡ min (length items) (N - a) → take (a + n) (take a old ++ (take n items ++ rest)) ≡ take N (take a old ++ items)
filled {T} N a n old items rest inside fits is =
    let front = take a old in
    let long : length front ≡ a = length-take-le a old inside in
    let part : length (take n items) ≡ n = length-take-le n items (omega (arith, is)) in
    let here : take (a + n) (front ++ (take n items ++ rest)) ≡ front ++ take n items =
    ap (λ i. take i (front ++ (take n items ++ rest))) (ap (λ i. i + n) (sym long)) ∙ take-append-add front (take n items ++ rest) n ∙ ap (λ l. front ++ l) (take-append-le n (take n items) rest (omega (arith, part)) ∙ take_all n (take n items) (omega (arith, part))) in
    let same : take n items ≡ take (N - a) items = ap (λ i. take i items) (omega (arith, is)) ∙ take_min (N - a) items in
    let there : take N (front ++ items) ≡ front ++ take (N - a) items = ap (λ i. take i (front ++ items)) (omega (arith, long)) ∙ take-append-add front items (N - a) in
    here ∙ ap (λ l. front ++ l) same ∙ sym there
