-- The list that a fixed vector stands for.
use Rattle.std.specs.Prelude.{ℕ, List, take}
use Rattle.fixed_vec.specs.declared.FixedVec.{FixedVec}

abbrev pub list_of : {T : Type 0} {N : ℕ} → FixedVec T N → List T
list_of v = take v.len v.items
