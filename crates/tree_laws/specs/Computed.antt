-- The standing of a word at a node, worked out from the standings sa and sb of words at its two children.
use Rattle.std.specs.Prelude.{ℕ, zero, suc, ◌+◌, ◌/◌, ◌^◌, Bool, true, false, if◌then◌else◌, not, List, [], ◌∷◌, ◌++◌, length, take, drop, ◌==◌, bit_and, bit_or, slice_index, slice_range}
use Rattle.tree_laws.specs.declared.Node.{Node}
use Rattle.tree_laws.specs.declared.Node.TheVariants.{Skip, Move as Single, Choice, Sequence, Loop, Parallel}
use Rattle.tree_laws.specs.Boundaries.{Turn, next_a, next_b, other}
use Rattle.tree_laws.specs.Selections.{picked, left_out}

-- s and the mask m have a bit in common
abbrev pub has : ℕ → ℕ → Bool
has s m = not (bit_and s m == 0)

-- the bits of f 0, f 1, .. f (n - 1), taken together
abbrev pub ors : (ℕ → ℕ) → ℕ → ℕ
ors f zero = 0
ors f (suc i) = bit_or (ors f i) (f i)

abbrev pub skip_standing : List ℕ → ℕ
skip_standing [] = 15
skip_standing (x ∷ xs) = 0

abbrev pub move_standing : ℕ → List ℕ → ℕ
move_standing m [] = 7
move_standing m (x ∷ []) = if x == m then 15 else 0
move_standing m (x ∷ y ∷ xs) = 0

-- Of a word cut in two, s is the standing of the front at the first child: an end of a route gives the bits that
-- leave the front open, 1 and 4, a whole route those that do not, 2 and 8.
abbrev pub front_bits : ℕ → ℕ
front_bits s = bit_or (bit_and s 12) (bit_and s 12 / 4)

-- s is the standing of the rest at the second child: the beginning of a route gives 1 and 2, a whole route 4 and 8
abbrev pub back_bits : ℕ → ℕ
back_bits s = bit_or (bit_and s 10) (bit_and s 10 / 2)

-- what the cut at j gives a sequence
abbrev pub cut_bits : (List ℕ → ℕ) → (List ℕ → ℕ) → List ℕ → ℕ → ℕ
cut_bits sa sb u j = bit_and (front_bits (sa (take j u))) (back_bits (sb (drop j u)))

abbrev pub sequence_standing : (List ℕ → ℕ) → (List ℕ → ℕ) → List ℕ → ℕ
sequence_standing sa sb u = bit_or (bit_or (bit_and (sa u) 3) (bit_and (sb u) 5)) (ors (cut_bits sa sb u) (length u + 1))

-- what the selection by the mask j gives an interleaving
abbrev pub mask_bits : (List ℕ → ℕ) → (List ℕ → ℕ) → List ℕ → ℕ → ℕ
mask_bits sa sb u j = bit_and (sa (picked j u)) (sb (left_out j u))

abbrev pub parallel_standing : (List ℕ → ℕ) → (List ℕ → ℕ) → List ℕ → ℕ
parallel_standing sa sb u = ors (mask_bits sa sb u) (2 ^ length u)

-- ---- loops: at each position, 8 for a turn whose boundary there is reached; only that bit counts

abbrev pub of_turn : {X : Type 0} → X → X → Turn → X
of_turn x y next_a = x
of_turn x y next_b = y

-- the start of the loop
abbrev pub fresh_start : ℕ → Turn → ℕ
fresh_start j next_a = if j == 0 then 8 else 0
fresh_start j next_b = 0

-- a start in the middle of the loop: the front of u ends a route of the other child
abbrev pub middle_start : (List ℕ → ℕ) → (List ℕ → ℕ) → List ℕ → ℕ → Turn → ℕ
middle_start sa sb u j m = if has (of_turn sa sb (other m) (take j u)) 4 then 8 else 0

abbrev pub start_bit : Bool → (List ℕ → ℕ) → (List ℕ → ℕ) → List ℕ → ℕ → Turn → ℕ
start_bit false sa sb u j m = fresh_start j m
start_bit true sa sb u j m = middle_start sa sb u j m

-- a whole route of the child m from the position i to j
abbrev pub piece_bit : (List ℕ → ℕ) → (List ℕ → ℕ) → List ℕ → List ℕ → ℕ → Turn → ℕ → ℕ
piece_bit sa sb u states j m i = bit_and (slice_index states i) (of_turn sa sb m (slice_range u i j))

-- reached at j by a start, or from a lower position, where the states have the turn other m
abbrev pub direct_bit : Bool → (List ℕ → ℕ) → (List ℕ → ℕ) → List ℕ → List ℕ × List ℕ → ℕ → Turn → ℕ
direct_bit middle sa sb u p j m = bit_or (start_bit middle sa sb u j m) (ors (piece_bit sa sb u (of_turn p.0 p.1 (other m)) j (other m)) j)

-- an empty route of the other child carries its turn over once
abbrev pub state_bit : Bool → (List ℕ → ℕ) → (List ℕ → ℕ) → List ℕ → List ℕ × List ℕ → ℕ → Turn → ℕ
state_bit middle sa sb u p j m = bit_or (direct_bit middle sa sb u p j m) (bit_and (direct_bit middle sa sb u p j (other m)) (of_turn sa sb (other m) []))

-- the states of the positions below j: those with a next, and those with b next
abbrev pub states : Bool → (List ℕ → ℕ) → (List ℕ → ℕ) → List ℕ → ℕ → List ℕ × List ℕ
states middle sa sb u zero = ([], [])
states middle sa sb u (suc j) =
    let p = states middle sa sb u j in
    (p.0 ++ (state_bit middle sa sb u p j next_a ∷ []), p.1 ++ (state_bit middle sa sb u p j next_b ∷ []))

-- the rest of u from j on begins a route of the child that is next
abbrev pub rest_bits : (List ℕ → ℕ) → (List ℕ → ℕ) → List ℕ → List ℕ × List ℕ → ℕ → ℕ
rest_bits sa sb u p j = bit_or (bit_and (slice_index p.0 j / 4) (sa (drop j u))) (bit_and (slice_index p.1 j / 4) (sb (drop j u)))

-- 8 where the word may end the loop, 2 where it may stop before the end
abbrev pub run_standing : Bool → (List ℕ → ℕ) → (List ℕ → ℕ) → List ℕ → ℕ
run_standing middle sa sb u =
    let p = states middle sa sb u (length u + 1) in
    bit_or (bit_and (slice_index p.1 (length u)) 8) (bit_and (ors (rest_bits sa sb u p) (length u + 1)) 2)

abbrev pub loop_standing : (List ℕ → ℕ) → (List ℕ → ℕ) → List ℕ → ℕ
loop_standing sa sb u = bit_or (bit_or (run_standing false sa sb u) (run_standing true sa sb u / 2)) (bit_and (bit_or (sa u) (sb u)) 1)

abbrev pub standing_of : Node → (List ℕ → ℕ) → (List ℕ → ℕ) → List ℕ → ℕ
standing_of Skip sa sb u = skip_standing u
standing_of (Single m) sa sb u = move_standing m u
standing_of (Choice a b) sa sb u = bit_or (sa u) (sb u)
standing_of (Sequence a b) sa sb u = sequence_standing sa sb u
standing_of (Loop a b) sa sb u = loop_standing sa sb u
standing_of (Parallel a b) sa sb u = parallel_standing sa sb u
