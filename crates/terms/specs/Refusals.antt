-- Every refusal's number, and the details that come with it.
use Rattle.std.specs.Prelude.{◌≡◌, ℕ, List, [], ◌∷◌, ◌++◌, codes, decimal}
use Rattle.terms.specs.declared.Refusal.{Refusal}
use Rattle.terms.specs.declared.Refusal.TheVariants.{BeyondReach, NoRoom, Shut, NodeCount, WrongNode, ModelReach, ModelRoom, TooManyMoves, WrongMove}

abbrev pub number : Refusal → ℕ
number BeyondReach = 1
number NoRoom = 2
number Shut = 10
number NodeCount = 11
number (WrongNode node field) = 12
number ModelReach = 13
number ModelRoom = 14
number TooManyMoves = 17
number (WrongMove place) = 18

-- for 12, the node and the field; for 18, the place of the first wrong move
abbrev pub details : Refusal → List ℕ
details BeyondReach = []
details NoRoom = []
details Shut = []
details NodeCount = []
details (WrongNode node field) = node ∷ field ∷ []
details ModelReach = []
details ModelRoom = []
details TooManyMoves = []
details (WrongMove place) = place ∷ []

-- the refusal e has this number and these details
pub record Says (e : Refusal) (m : ℕ) (ds : List ℕ) : Type 0 where
  pub numbered : number e ≡ m
  pub detailed : details e ≡ ds

-- what a refusal prints: its number, and the reason with its details
abbrev pub text : Refusal → List ℕ
text BeyondReach = codes "refused: 1 (key beyond the reach)"
text NoRoom = codes "refused: 2 (no room in the rack)"
text Shut = codes "refused: 10 (the book is shut)"
text NodeCount = codes "refused: 11 (no node, or more than 32)"
text (WrongNode node field) = codes "refused: 12 (node " ++ decimal node ++ codes ", field " ++ decimal field ++ codes ")"
text ModelReach = codes "refused: 13 (the model rack's reach is too low)"
text ModelRoom = codes "refused: 14 (the model rack has too little room)"
text TooManyMoves = codes "refused: 17 (more than 32 moves)"
text (WrongMove place) = codes "refused: 18 (move " ++ decimal place ++ codes ")"
