-- Document 01, "Verdicts": the verdict of one expectation, and its number in a slot. Assumes nothing.
use Rattle.std.specs.Prelude.{ℕ, List, eqb, if◌then◌else◌, None, Option, Some}
use Rattle.text.specs.Parts.{same_bytes}
use Rattle.verdicts.specs.Expected.{Matching, Expected, terminal, result, result_field, error, stderr_count, daemon, trust, server_features}
use Rattle.verdicts.specs.Told.{Subject, greeting, reply}
use Rattle.verdicts.specs.Lookup.{looked}
use Rattle.verdicts.specs.Decisions.{passed_if, decides}
use Rattle.verdicts.specs.declared.Verdict.{Verdict}
use Rattle.verdicts.specs.declared.Verdict.TheVariants.{Passed, Failed, Undecided}

-- a missing value fails first
unfoldable pub valued : Matching → Option (List ℕ) → Verdict
valued m None = Failed
valued m (Some value) = decides m value

-- the name of the last message; the handshake has none
unfoldable pub named_by : Subject → (name : List ℕ) → Verdict
named_by (greeting i) name = Failed
named_by (reply r) name = passed_if (same_bytes r.terminal name)

-- An expectation that does not belong where it is judged looks up nothing, and fails.
unfoldable pub verdict : Subject → Expected → Verdict
verdict s (terminal name) = named_by s name
verdict s (result m) = valued m (looked s (result m))
verdict s (result_field field m) = valued m (looked s (result_field field m))
verdict s (error m) = valued m (looked s (error m))
verdict s (stderr_count m) = valued m (looked s (stderr_count m))
verdict s (daemon m) = valued m (looked s (daemon m))
verdict s (trust m) = valued m (looked s (trust m))
verdict s (server_features m) = valued m (looked s (server_features m))

-- ---- verdicts as numbers

unfoldable pub code : Verdict → ℕ
code Passed = 1
code Failed = 2
code Undecided = 3

-- Any other byte reads as failed: a slot that nobody wrote never reads as passed.
unfoldable pub decode : ℕ → Verdict
decode b = if eqb b 1 then Passed else if eqb b 3 then Undecided else Failed
