-- Document 01, "Verdicts": messages are those of expect.rs; the one with `{expect:?}` ends after its colon and blank; undecided is `undecided: ` and
-- the pattern in slashes. Assumes nothing.
use Rattle.std.specs.Prelude.{ℕ, suc, List, [], ◌++◌, ℤ, pos, negsuc, None, Option, Some}
use Rattle.text.specs.Literal.{utf8}
use Rattle.values.specs.Decimal.{decimal}
use Rattle.verdicts.specs.Expected.{Matching, exact, regex, greater_than, less_than, greater_or_equal, less_or_equal, Expected, terminal, result, result_field, error, stderr_count, daemon, trust, server_features}
use Rattle.verdicts.specs.Told.{Response, Info, Subject, greeting, reply}
use Rattle.verdicts.specs.Lookup.{looked_in, told_in}
use Rattle.verdicts.specs.Decisions.{decides}
use Rattle.verdicts.specs.Verdicts.{named_by}
use Rattle.verdicts.specs.declared.Verdict.{Verdict}
use Rattle.verdicts.specs.declared.Verdict.TheVariants.{Passed, Failed, Undecided}

-- a number with its sign: no `+`, no zero in front
unfoldable pub integer : ℤ → List ℕ
integer (pos n) = decimal n
integer (negsuc n) = utf8 "-" ++ decimal (suc n)

-- a matcher as it is shown
unfoldable pub shown : Matching → List ℕ
shown (exact text) = text
shown (regex pattern) = utf8 "/" ++ pattern ++ utf8 "/"
shown (greater_than n) = utf8 "> " ++ integer n
shown (less_than n) = utf8 "< " ++ integer n
shown (greater_or_equal n) = utf8 ">= " ++ integer n
shown (less_or_equal n) = utf8 "<= " ++ integer n

-- ---- of a value that was looked up

-- what stands in front of the value if it passed, and in front of `expected` if it failed
pub record Heading : Type 0 where
  pub passed : List ℕ
  pub failed : List ℕ

unfoldable pub says_of : Heading → Matching → (value : List ℕ) → Verdict → List ℕ
says_of h m value Passed = h.passed ++ value
says_of h m value Failed = h.failed ++ utf8 ": expected " ++ shown m ++ utf8 ", got " ++ value
says_of h m value Undecided = utf8 "undecided: " ++ shown m

-- and where it may be missing
unfoldable pub value_says : Heading → (missing : List ℕ) → Matching → Option (List ℕ) → List ℕ
value_says h missing m None = missing
value_says h missing m (Some value) = says_of h m value (decides m value)

-- `KEY = value`, or `KEY: expected ..`
unfoldable pub heading : (key : List ℕ) → Heading
heading key = record { passed = key ++ utf8 " = "; failed = key }

unfoldable pub error_heading : Heading
error_heading = record { passed = utf8 "error matched: "; failed = utf8 "error" }

-- `result`, or `result.` and the field
unfoldable pub result_says : (key : List ℕ) → Matching → Option (List ℕ) → List ℕ
result_says key m value = value_says (heading key) (utf8 "result field " ++ key ++ utf8 " not found") m value

-- ---- of the name of the last message

unfoldable pub terminal_says : (name got : List ℕ) → Verdict → List ℕ
terminal_says name got Passed = utf8 "terminal = " ++ name
terminal_says name got Failed = utf8 "expected terminal " ++ name ++ utf8 ", got " ++ got
terminal_says name got Undecided = []

-- ---- of an expectation

unfoldable pub misplaced_in_entry : List ℕ
misplaced_in_entry = utf8 "handshake expect used in op context"

unfoldable pub misplaced_in_preamble : List ℕ
misplaced_in_preamble = utf8 "non-handshake expect in preamble: "

unfoldable pub entry_message : Response → Expected → List ℕ
entry_message r (terminal name) = terminal_says name r.terminal (named_by (reply r) name)
entry_message r (result m) = result_says (utf8 "result") m (looked_in r (result m))
entry_message r (result_field field m) = result_says (utf8 "result." ++ field) m (looked_in r (result_field field m))
entry_message r (error m) = value_says error_heading (utf8 "expected error but none received") m (looked_in r (error m))
entry_message r (stderr_count m) = value_says (heading (utf8 "stderr.count")) [] m (looked_in r (stderr_count m))
entry_message r (daemon m) = misplaced_in_entry
entry_message r (trust m) = misplaced_in_entry
entry_message r (server_features m) = misplaced_in_entry

unfoldable pub handshake_message : Info → Expected → List ℕ
handshake_message i (terminal name) = misplaced_in_preamble
handshake_message i (result m) = misplaced_in_preamble
handshake_message i (result_field field m) = misplaced_in_preamble
handshake_message i (error m) = misplaced_in_preamble
handshake_message i (stderr_count m) = misplaced_in_preamble
handshake_message i (daemon m) = value_says (heading (utf8 "daemon")) [] m (told_in i (daemon m))
handshake_message i (trust m) = value_says (heading (utf8 "trust")) [] m (told_in i (trust m))
handshake_message i (server_features m) = value_says (heading (utf8 "server_features")) [] m (told_in i (server_features m))

unfoldable pub message : Subject → Expected → List ℕ
message (greeting i) e = handshake_message i e
message (reply r) e = entry_message r e
