-- How the cases are counted. Assumes nothing.
use Rattle.std.specs.Prelude.{ℕ, ◌+◌}
use Rattle.cases.specs.declared.Tally.{Tally}
use Rattle.cases.specs.declared.Case.{Case}
use Rattle.cases.specs.declared.Case.TheVariants.{Read, Refused, Dumped, Judged, Wrong}

abbrev pub tally : (read refused dumped judged wrong : ℕ) → Tally
tally read refused dumped judged wrong = record { read = read; refused = refused; dumped = dumped; judged = judged; wrong = wrong }

unfoldable pub counted : Tally → Case → Tally
counted t Read = tally (t.read + 1) t.refused t.dumped t.judged t.wrong
counted t Refused = tally t.read (t.refused + 1) t.dumped t.judged t.wrong
counted t Dumped = tally t.read t.refused (t.dumped + 1) t.judged t.wrong
counted t Judged = tally t.read t.refused t.dumped (t.judged + 1) t.wrong
counted t Wrong = tally t.read t.refused t.dumped t.judged (t.wrong + 1)

-- how many cases there are
abbrev pub total : Tally → ℕ
total t = t.read + t.refused + t.dumped + t.judged + t.wrong
