-- Each worked example holds: antt computes a test of each, one after the other.
use Rattle.std.proofs.Common.{◌≡◌, Bool, true, eqb, All, refl}
use Rattle.std.specs.Str.{bytes_eq}
use Rattle.std.specs.Cmp.Lexicographic.{pointwise}
use Rattle.std.proofs.lemmas.Slice.Eq.{bytes_eq-Decides, slice_eq-Decides}
use Rattle.std.proofs.lemmas.List.Elements.{All-weaker}
use Rattle.std.proofs.lemmas.List.Sums.{AllPass-from_list_all}
use Rattle.std.proofs.lemmas.Bool.{eqb-true}
use Rattle.terms.specs.Codes.{code}
use Rattle.terms.specs.Words.{marked, windows}
use Rattle.terms.proofs.Windows.{cuts_from_windows}
use Rattle.examples.specs.Worked.{Example, cut, coded, plays, unplayable, Holds, examples}
use Rattle.examples.proofs.Played.{plays_test, plays_from_test, unplayable_test, unplayable_from_test}

abbrev passes : Example → Bool
passes (cut k play ws) = pointwise bytes_eq ws (windows k (marked play))
passes (coded n word number) = eqb (code n word) number
passes (plays n k tree ws) = plays_test n k tree ws
passes (unplayable n k tree window) = unplayable_test n k tree window

holds : (x : Example) → passes x ≡ true → Holds x
holds (cut k play ws) e = cuts_from_windows k _ ws ((slice_eq-Decides bytes_eq-Decides ws _ _ refl).0 e)
holds (coded n word number) e = eqb-true (code n word) number e
holds (plays n k tree ws) e = plays_from_test n k tree ws e
holds (unplayable n k tree window) e = unplayable_from_test n k tree window e

pub all_hold : All Holds examples
all_hold = All-weaker (λ x. passes x ≡ true) Holds holds examples (AllPass-from_list_all passes examples refl)
