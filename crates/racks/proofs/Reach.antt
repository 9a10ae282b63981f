-- A held key lies below the reach.
use Rattle.std.proofs.Common.{ℕ, ◌<◌, inl, inr, arith}
use Rattle.std.proofs.lemmas.Bool.{cases_lt}
use Rattle.racks.specs.Views.{View, Bounded}

pub held_below : (v : View) (k : ℕ) → Bounded v → 0 < v.number k → k < v.reach
held_below v k b held = elim (cases_lt k v.reach) [ inl h ↦ h | inr h ↦ absurd (omega (arith, b.below_reach k h)) ]
