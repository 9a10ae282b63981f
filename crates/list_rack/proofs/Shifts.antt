-- What turning a part of a list by one place leaves: one more element at a place, or one less.
use Rattle.std.proofs.Common.{◌≡◌, ℕ, ◌+◌, ◌-◌, ◌<◌, ◌≤◌, List, ◌++◌, length, take, drop, set, sym, ap, ◌∙◌, add-one, arith}
use borrow.Rule.Slice.PartMut.{put_mid}
use Rattle.std.specs.List.{insert, remove, between}
use Rattle.std.proofs.lemmas.List.{same_lists, places, get_or-set_same, append_assoc, take_at, take-take, drop-drop, length-append, length-take, length-drop, length-set}
use Rattle.std.proofs.lemmas.Slice.{between_is}
use Rattle.std.proofs.lemmas.Bool.{cases_eq}

module _ {X : Type 0} (rows rot : List X) (n a : ℕ) where
  module _ (x : X) (low : a ≤ n) (inside : n < length rows) (turned : rot ≡ drop (length (between a (n + 1) rows) - 1) (between a (n + 1) rows) ++ take (length (between a (n + 1) rows) - 1) (between a (n + 1) rows)) where
    long : length rot ≡ n + 1 - a
    long = ap length turned ∙ simp (length-append, length-take, length-drop) (omega arith)

    pub insert_held : take (n + 1) (set (put_mid a (n + 1 - a) rows rot) a x) ≡ insert (take n rows) a x
    insert_held =
        same_lists _ _ (simp (length-append, length-take, length-drop, length-set, long) (omega arith))
        (λ k d h. grind (arith, places, get_or-set_same, cases_eq k a, turned))

  module _ (low : a < n) (inside : n ≤ length rows) (turned : rot ≡ drop 1 (between a n rows) ++ take 1 (between a n rows)) where
    -- last is the element that was taken out
    apart : (front last : List X) → length front ≡ n - a - 1 → rot ≡ front ++ last → take (n - 1) (put_mid a (n - a) rows rot) ≡ take a rows ++ front
    apart front last long is =
        ap (λ r. take (n - 1) (put_mid a (n - a) rows r)) is
        ∙ ap (take (n - 1)) (simp append_assoc)
        ∙ take_at (take a rows ++ front) (last ++ drop (n - a) (drop a rows)) (n - 1) (simp (length-append, length-take, long) (omega arith))

    pub remove_held : take (n - 1) (put_mid a (n - a) rows rot) ≡ remove (take n rows) a
    remove_held =
        apart (drop 1 (between a n rows)) _ (simp (length-take, length-drop) (omega arith)) turned
        ∙ ap (λ p. p ++ drop 1 (between a n rows)) (sym (take-take a n rows (omega arith)))
        ∙ ap (λ l. take a (take n rows) ++ drop 1 l) (between_is rows a n)
        ∙ ap (λ l. take a (take n rows) ++ l) (drop-drop 1 a (take n rows) ∙ ap (λ k. drop k (take n rows)) (add-one a))
