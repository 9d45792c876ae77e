-- Worked examples of verdicts and their messages, P6, P7, P8 and P16 of document 01 among them. Assumes nothing.
use Rattle.std.specs.Prelude.{None, Option, Some}
use Prim.Native.Nat.{ℕ}
use mathlib.Core.Path.{◌≡◌, refl}
use mathlib.Core.List.{[], ◌∷◌}
use lib.IntN.{pos, negsuc}
use Rattle.text.specs.Base as text-Base
use Rattle.text.specs.Unicode as text-Unicode
use Rattle.text.specs.Literal as text-Literal
use Rattle.text.specs.Literal.{utf8}
use Rattle.text.specs.Parts as text-Parts
use Rattle.values.specs.Numbers as values-Numbers
use Rattle.values.specs.Decimal as values-Decimal
use Rattle.verdicts.specs.Expected.{exact, regex, greater_than, less_than, greater_or_equal, terminal, result, result_field, error, stderr_count, trust, server_features}
use Rattle.verdicts.specs.Told.{Subject, greeting, reply, absent, string_set}
use Rattle.verdicts.specs.Lookup as Lookup
use Rattle.verdicts.specs.Decisions as Decisions
use Rattle.verdicts.specs.Decisions.{decides}
use Rattle.verdicts.specs.Verdicts as Verdicts
use Rattle.verdicts.specs.Verdicts.{verdict}
use Rattle.verdicts.specs.Messages as Messages
use Rattle.verdicts.specs.Messages.{message}
use Rattle.verdicts.specs.declared.Verdict.TheVariants.{Passed, Failed, Undecided}

-- a response that failed: `Error`, three messages before it, no result
abbrev pub refused : Subject
refused = reply (record { terminal = utf8 "Error"; stderr_count = 3; result = absent; error = Some (utf8 "path 'x' is not valid") })

-- one that gave a list
abbrev pub listing : Subject
listing = reply (record { terminal = utf8 "Last"; stderr_count = 0; result = string_set (utf8 "a" ∷ utf8 "b" ∷ []); error = None })

-- a handshake with no features
abbrev pub told : Option ℕ → Subject
told trusts = greeting (record { server_features = []; daemon_nix_version = None; trust_status = trusts })

pub examples :
    -- P6: matcher `//` passes on any value, `/` is exact
    (decides (regex []) (utf8 "any") ≡ Passed)
    × (decides (regex []) [] ≡ Passed)
    × (decides (exact (utf8 "/")) (utf8 "/") ≡ Passed)
    × (decides (exact (utf8 "/")) (utf8 "any") ≡ Failed)
    -- P7: `>= 9223372036854775807` on 9223372036854775808 fails
    × (decides (greater_or_equal (pos 9223372036854775807)) (utf8 "9223372036854775808") ≡ Failed)
    × (decides (greater_or_equal (pos 9223372036854775807)) (utf8 "9223372036854775807") ≡ Passed)
    × (decides (greater_or_equal (pos 5)) (utf8 "6") ≡ Passed)
    × (decides (greater_or_equal (pos 5)) (utf8 "-6") ≡ Failed)
    × (decides (less_than (pos 5)) (utf8 " 4") ≡ Failed)
    -- P8: `{}` against no features fails, the value being `{  }`
    × (verdict (told None) (server_features (exact (utf8 "{}"))) ≡ Failed)
    × (verdict (told None) (server_features (exact (utf8 "{  }"))) ≡ Passed)
    -- P16: trust 3 is `unknown`
    × (verdict (told (Some 3)) (trust (exact (utf8 "unknown"))) ≡ Passed)
    × (verdict (told (Some 1)) (trust (exact (utf8 "trusted"))) ≡ Passed)
    × (verdict (told None) (trust (exact (utf8 "unknown"))) ≡ Passed)
    -- a pattern with one of the fourteen signs is undecided; a missing value fails first
    × (verdict refused (error (regex (utf8 "^path"))) ≡ Undecided)
    × (verdict refused (error (regex (utf8 "not valid"))) ≡ Passed)
    × (verdict refused (result (regex (utf8 "a.b"))) ≡ Failed)
    -- what does not belong where it is judged fails
    × (verdict refused (trust (regex (utf8 "a.b"))) ≡ Failed)
    × (verdict (told None) (terminal (utf8 "Last")) ≡ Failed)
    -- messages
    × (message refused (terminal (utf8 "Last")) ≡ utf8 "expected terminal Last, got Error")
    × (message refused (stderr_count (greater_than (pos 5))) ≡ utf8 "stderr.count: expected > 5, got 3")
    × (message refused (result_field [] (exact [])) ≡ utf8 "result field result. not found")
    × (message refused (error (regex (utf8 "^p"))) ≡ utf8 "undecided: /^p/")
    × (message listing (result (exact (utf8 "[a, b]"))) ≡ utf8 "result = [a, b]")
    × (message listing (result (less_than (negsuc 0))) ≡ utf8 "result: expected < -1, got [a, b]")
    × (message listing (error (exact [])) ≡ utf8 "expected error but none received")
    × (message (told None) (server_features (exact (utf8 "{}"))) ≡ utf8 "server_features: expected {}, got {  }")
    × (message (told None) (terminal (utf8 "Last")) ≡ utf8 "non-handshake expect in preamble: ")
unfolding text-Base.within text-Unicode.encoded text-Literal.utf8 text-Literal.spells text-Parts.starts_with text-Parts.same_bytes values-Numbers.all_digits values-Numbers.decimal_from values-Numbers.digits values-Numbers.number values-Numbers.minus values-Numbers.signed values-Decimal.decimal_by values-Decimal.decimal Lookup.joined Lookup.bracketed Lookup.braced Lookup.flag Lookup.fields Lookup.value_in Lookup.whole_value Lookup.daemon_text Lookup.trust_of Lookup.trust_text Lookup.features_text Lookup.looked_in Lookup.told_in Lookup.looked Decisions.passed_if Decisions.one_of Decisions.plain Decisions.contains Decisions.pattern_decides Decisions.ordered Decisions.decides Verdicts.valued Verdicts.named_by Verdicts.verdict Messages.integer Messages.shown Messages.says_of Messages.value_says Messages.heading Messages.error_heading Messages.result_says Messages.terminal_says Messages.misplaced_in_entry Messages.misplaced_in_preamble Messages.entry_message Messages.handshake_message Messages.message
examples = (refl, refl, refl, refl, refl, refl, refl, refl, refl, refl, refl, refl, refl, refl, refl, refl, refl, refl, refl, refl, refl, refl, refl, refl, refl, refl, refl, refl)
