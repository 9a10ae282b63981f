use Rattle.windows.proofs.alphabet.Alphabet.+spell.Given as goal

abbrev pub decreases-spell : goal.decreases-spell
decreases-spell l = l.end
