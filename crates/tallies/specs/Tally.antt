-- Document 01, "Verdicts": a tally holds the next number (0 handshake, entries from 1) and counts of passed, failed, undecided. Closing says: failed if any
-- failed; else undecided if any; else nothing checked if there is no verdict; else passed. Assumes nothing.
use Rattle.std.specs.Prelude.{◌+◌, Bool, List, [], ◌∷◌, ltb, eqb, if◌then◌else◌}
use Rattle.text.specs.Base.{◌or◌}
use Rattle.verdicts.specs.declared.Verdict.{Verdict}
use Rattle.tallies.specs.declared.tally.Counts.{Counts}
use Rattle.tallies.specs.declared.tally.Outcome.{Outcome}
use Rattle.tallies.specs.declared.tally.Outcome.TheVariants.{Failed, Undecided, NothingChecked, Passed}

abbrev pub no_counts : Counts
no_counts = record { passed = 0; failed = 0; undecided = 0 }

-- one verdict more: 1 on the count of its kind
abbrev pub added : Verdict → Counts → Counts
added Verdict.Passed c = record { passed = c.passed + 1; failed = c.failed; undecided = c.undecided }
added Verdict.Failed c = record { passed = c.passed; failed = c.failed + 1; undecided = c.undecided }
added Verdict.Undecided c = record { passed = c.passed; failed = c.failed; undecided = c.undecided + 1 }

-- some verdicts more
unfoldable pub added_all : List Verdict → Counts → Counts
added_all [] c = c
added_all (v ∷ vs) c = added v (added_all vs c)

-- what closing says of the counts; where none failed and none is undecided, there is no verdict if none passed
unfoldable pub outcome_of : Counts → Outcome
outcome_of c =
    if ltb 0 c.failed then Failed
    else if ltb 0 c.undecided then Undecided
    else if eqb c.passed 0 then NothingChecked
    else Passed

-- whether a count is above 32,768
unfoldable pub over_limit : Counts → Bool
over_limit c = ltb 0x8000 c.passed or ltb 0x8000 c.failed or ltb 0x8000 c.undecided
