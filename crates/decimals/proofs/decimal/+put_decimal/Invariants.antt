use Rattle.decimals.proofs.decimal.+put_decimal.Given as goal

-- It calls itself at the tenth of the number, so the measure is the number.
abbrev pub decreases-put_decimal : goal.decreases-put_decimal
decreases-put_decimal l = l.n
