-- The marked list of a play, and its runs one after the other.
use Rattle.std.proofs.Common.{◌≡◌, ℕ, suc, zero, ◌+◌, ◌-◌, ◌≤◌, min, List, [], ◌∷◌, ◌++◌, map, length, take, drop, sym, refl, ap, ◌∙◌, ⊎_elim, add-one, append_assoc, arith, length-append}
use Rattle.std.specs.List.{range_with_len}
use Rattle.std.proofs.lemmas.Bool.{cases_lt}
use Rattle.std.proofs.lemmas.List.{take_all, map_push, length-map, length_push, length-take-le}
use Rattle.terms.specs.Words.{marked, start_mark, end_mark, run, runs, windows}
use Rattle.terms.proofs.Shapes.{length_marked}
use Rattle.terms.proofs.Windows.{windows_short, windows_long}
use Rattle.windows.specs.Values.{word_items}
use Rattle.windows.specs.declared.words.Word.{Word}

-- both marks around the moves w, put one behind the other where there is room
pub marks_around : (w a b c : List ℕ) → length w ≤ 32 → a ≡ take 34 (start_mark ∷ []) → b ≡ take 34 (a ++ w) → c ≡ take 34 (b ++ (end_mark ∷ [])) → c ≡ marked w
marks_around w a b c short first second third =
    let one : a ≡ start_mark ∷ [] = first ∙ take_all 34 (start_mark ∷ []) (omega arith) in
    let two : b ≡ start_mark ∷ w = second ∙ ap (λ l. take 34 (l ++ w)) one ∙ take_all 34 (start_mark ∷ w) (omega arith) in
    third ∙ ap (λ l. take 34 (l ++ (end_mark ∷ []))) two ∙ take_all 34 (marked w) (omega (arith, length_marked w))

-- the runs behind the first item are the runs of the rest
runs_shift : (k x : ℕ) (w : List ℕ) (a m : ℕ) → map (run k (x ∷ w)) (range_with_len (a + 1) m) ≡ map (run k w) (range_with_len a m)
runs_shift k x w a zero = refl
runs_shift k x w a (suc m) = let here : run k (x ∷ w) (a + 1) ≡ run k w a = ap (λ i. take k (drop i (x ∷ w))) (add-one a) in (λ i. here i ∷ runs_shift k x w (a + 1) m i)

pub runs_more : (k : ℕ) (w : List ℕ) → 1 ≤ k → k ≤ length w → runs k w ≡ take k w ∷ runs k (drop 1 w)
runs_more k [] some long = absurd (omega arith)
runs_more k (x ∷ w) some long =
    let many : length (x ∷ w) + 1 - k ≡ suc (length w + 1 - k) = omega arith in
    ap (λ m. map (run k (x ∷ w)) (range_with_len 0 m)) many ∙ ap (λ l. take k (x ∷ w) ∷ l) (runs_shift k x w 0 (length w + 1 - k))

-- a list has one run of its own length, so its windows are runs however long it is
pub windows_runs : (k : ℕ) (w : List ℕ) → windows k w ≡ runs (min k (length w)) w
windows_runs k w =
    ⊎_elim
    (λ long. let least : k ≡ min k (length w) = omega arith in windows_long k w long ∙ ap (λ i. runs i w) least)
    (λ short.
    let one : length w + 1 - length w ≡ 1 = omega arith in
    let least : min k (length w) ≡ length w = omega arith in
    let whole : runs (length w) w ≡ w ∷ [] = ap (λ m. map (run (length w) w) (range_with_len 0 m)) one ∙ ap (λ u. u ∷ []) (take_all (length w) w (omega arith)) in
    windows_short k w short ∙ sym (ap (λ i. runs i w) least ∙ whole))
    (cases_lt k (length w))

-- one window more written, where there is room
pub window_more : (k : ℕ) (all : List (List ℕ)) (rest run : List ℕ) (ws more : List Word) (w : Word) → 2 ≤ k → k ≤ 5 → length all ≤ 33 → all ≡ map word_items ws ++ runs k rest → k ≤ length rest → run ≡ take k rest → word_items w ≡ take 5 run → more ≡ take 33 (ws ++ (w ∷ [])) → all ≡ map word_items more ++ runs k (drop 1 rest)
window_more k all rest run ws more w some low few split long is items pushed =
    let step = runs_more k rest (omega arith) long in
    let size : length run ≡ k = ap length is ∙ length-take-le k rest long in
    let same : word_items w ≡ take k rest = items ∙ take_all 5 run (omega (arith, size)) ∙ is in
    let count = ap length split ∙ length-append (map word_items ws) (runs k rest) in
    let whole : more ≡ ws ++ (w ∷ []) = pushed ∙ take_all 33 (ws ++ (w ∷ [])) (omega (arith, few, count, ap length step, length-map ws word_items, length_push ws w)) in
    split ∙ ap (λ l. map word_items ws ++ l) (step ∙ ap (λ u. u ∷ runs k (drop 1 rest)) (sym same)) ∙ sym (append_assoc (map word_items ws) (word_items w ∷ []) (runs k (drop 1 rest))) ∙ ap (λ l. l ++ runs k (drop 1 rest)) (sym (ap (map word_items) whole ∙ map_push word_items ws w))
