-- The number of a verdict tells it. Assumes nothing.
use mathlib.Core.Path.{◌≡◌, refl}
use Rattle.verdicts.specs.Verdicts.{code, decode}
use Rattle.verdicts.specs.declared.Verdict.{Verdict}
use Rattle.verdicts.specs.declared.Verdict.TheVariants.{Passed, Failed, Undecided}

pub decode-code : (v : Verdict) → decode (code v) ≡ v
unfolding decode code
decode-code Passed = refl
decode-code Failed = refl
decode-code Undecided = refl
