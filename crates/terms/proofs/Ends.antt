-- A list seen from its end.
use Rattle.std.proofs.Common.{◌≡◌, ◌⊎◌, List, [], ◌∷◌, ◌++◌, All, length, sym, refl, ap, subst, inl, inr, ⊎_elim, append_assoc, append-nil}
use lib.Seq.{take-append_seam, drop-append_seam}
use Rattle.std.proofs.lemmas.List.Elements.{All-head, All-take, All-drop}

-- a list is empty or has a last item
pub from_the_end : {X : Type 0} (w : List X) → (w ≡ []) ⊎ ((v : List X) × (x : X) × (w ≡ v ++ (x ∷ [])))
from_the_end [] = inl refl
from_the_end (y ∷ ys) = inr (⊎_elim (λ e. ([], y, ap (λ l. y ∷ l) e)) (λ r. (y ∷ r.0, r.1, ap (λ l. y ∷ l) r.2)) (from_the_end ys))

-- what holds of the empty list, and of a list with one more item at its end if of the list, holds of every list
module _ {X : Type 0} (P : List X → Type 0) (more : (v : List X) (x : X) → P v → P (v ++ (x ∷ []))) where
  onwards : (v w : List X) → P v → P (v ++ w)
  onwards v [] h = subst P (sym (append-nil v)) h
  onwards v (x ∷ w) h = subst P (append_assoc v (x ∷ []) w) (onwards (v ++ (x ∷ [])) w (more v x h))

  pub by_ends : P [] → (w : List X) → P w
  by_ends none w = onwards [] w none

-- what holds of every item of a joined list
pub all_parts : {X : Type 0} (P : X → Type 0) (v w : List X) → All P (v ++ w) → All P v × All P w
all_parts P v w h = (rw take-append_seam at (All-take P (length v) (v ++ w) h), rw drop-append_seam at (All-drop P (length v) (v ++ w) h))

pub all_before_last : {X : Type 0} (P : X → Type 0) (v : List X) (x : X) → All P (v ++ (x ∷ [])) → All P v × P x
all_before_last P v x h = let parts = all_parts P v (x ∷ []) h in (parts.0, All-head P x [] parts.1)

pub all_in_the_middle : {X : Type 0} (P : X → Type 0) (v : List X) (x : X) (w : List X) → All P (v ++ (x ∷ w)) → P x
all_in_the_middle P v x w h = All-head P x w (all_parts P v (x ∷ w) h).1
