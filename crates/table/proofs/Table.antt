-- The table of document 01, "Proved in a single table", as one theorem: `table`, at the end of this file. Assumes nothing.
use Rattle.std.specs.Prelude.{Err, None, Ok, Option, Result, Some}
use Prim.Native.Nat.{ℕ}
use Prim.Native.String.{String}
use mathlib.Core.Path.{◌≡◌, refl}
use mathlib.Core.Bool.{true, false}
use mathlib.Core.List.{List, [], ◌∷◌, map}
use lib.IntN.{pos}
use Rattle.text.specs.Literal.{utf8}
use Rattle.text.specs.Base as text-Base
use Rattle.text.specs.Lines as text-Lines
use Rattle.text.specs.Literal as text-Literal
use Rattle.text.specs.Parts as text-Parts
use Rattle.text.specs.Trim as text-Trim
use Rattle.text.specs.Unicode as text-Unicode
use Rattle.text.specs.Utf8 as text-Utf8
use Rattle.text.specs.Words as text-Words
use Rattle.values.specs.Hex as values-Hex
use Rattle.values.specs.Numbers as values-Numbers
use Rattle.values.specs.Unquote as values-Unquote
use Rattle.wire.specs.Operations as wire-Operations
use Rattle.version.specs.Version as wire-Version
use Rattle.script.specs.Answers as script-Answers
use Rattle.script.specs.Contents as script-Contents
use Rattle.script.specs.Expectations as script-Expectations
use Rattle.script.specs.Layout as script-Layout
use Rattle.script.specs.Operations as script-Operations
use Rattle.script.specs.Pieces as script-Pieces
use Rattle.script.specs.Plain as script-Plain
use Rattle.script.specs.Reading as script-Reading
use Rattle.script.specs.Roles as script-Roles
use Rattle.script.specs.Sets as script-Sets
use Rattle.script.specs.Timestamps as script-Timestamps
use Rattle.script.specs.Values as script-Values
use Rattle.verdicts.specs.Decisions as verdicts-Decisions
use Rattle.verdicts.specs.Held as verdicts-Held
use Rattle.verdicts.specs.Lookup as verdicts-Lookup
use Rattle.judging.specs.Calls as judge-Calls
use Rattle.tallies.specs.Tally as judge-Tally
use Rattle.tallies.specs.Answers as judge-Answers
use Rattle.judging.specs.PlainJudge as plain-PlainJudge
use Rattle.values.specs.Hex.{hex_decoded}
use Rattle.values.specs.Unquote.{unquoted}
use Rattle.values.proofs.ValueExamples as values
use Rattle.version.specs.declared.ProtocolVersion.{ProtocolVersion}
use Rattle.wire.specs.declared.ops.Op.TheVariants as Op
use Rattle.script.specs.Layout.{Reading}
use Rattle.script.specs.Reading.{parsed, Parsed}
use Rattle.script.specs.declared.records.Counts.{Counts}
use Rattle.script.specs.declared.records.OpCall.{OpCall}
use Rattle.script.specs.declared.response.HandshakeInfo.{HandshakeInfo}
use Rattle.script.specs.Refusals.{refusal, reason_number}
use Rattle.script.specs.declared.records.Refusal.{Refusal}
use Rattle.script.specs.declared.refusals.Reason.TheVariants.{UnknownOperation}
use Rattle.verdicts.specs.Expected.{Expected, exact, regex, greater_or_equal, result, trust, server_features}
use Rattle.verdicts.specs.Told.{Subject, greeting}
use Rattle.verdicts.specs.Lookup.{looked}
use Rattle.verdicts.specs.Decisions.{decides}
use Rattle.verdicts.specs.Verdicts.{verdict}
use Rattle.verdicts.specs.declared.Verdict.TheVariants.{Passed, Failed}
use Rattle.verdicts.proofs.VerdictExamples as verdicts
use Rattle.verdicts.specs.Subjects.{parts_in}
use Rattle.verdicts.specs.declared.handed.Handed.TheVariants.{Info}
use Rattle.judging.specs.Calls.{Call, judge, close, said}
use Rattle.tallies.specs.declared.calls.Answer.{Answer}
use Rattle.tallies.specs.declared.calls.Answer.TheVariants.{Judged, Closed}
use Rattle.tallies.specs.declared.tally.Outcome.TheVariants.{NothingChecked}
use Rattle.judging.specs.PlainJudge.{plain_run}

-- ---- what a text is read as

-- the reading of a text, every definition open
abbrev pub reading : String → Parsed Reading
unfolding text-Base.within values-Hex.without values-Hex.without_blanks values-Hex.character_starts values-Hex.hex_value values-Hex.hex_byte values-Hex.hex_pairs values-Hex.hex_decoded text-Lines.lines_from text-Lines.lines text-Lines.indented text-Literal.utf8 text-Literal.spells text-Literal.begins_with text-Literal.word_length values-Numbers.all_digits values-Numbers.decimal_from values-Numbers.digits values-Numbers.number values-Numbers.minus values-Numbers.signed text-Parts.starts_with text-Parts.ends_with text-Parts.same_bytes text-Parts.position_from text-Parts.position text-Parts.pair_position_from text-Parts.pair_position text-Parts.split_from text-Parts.split text-Trim.white_bytes text-Trim.backwards text-Trim.begins text-Trim.size_of text-Trim.strip_from text-Trim.trimmed_front text-Trim.trimmed_back text-Trim.trimmed text-Trim.trim_place text-Unicode.encoded values-Unquote.quoted values-Unquote.between values-Unquote.replaced values-Unquote.replaced_in_order values-Unquote.unescaped values-Unquote.unquoted text-Utf8.table text-Utf8.after text-Utf8.well_formed_from text-Utf8.well_formed text-Words.words_from text-Words.words wire-Operations.operation wire-Operations.first wire-Operations.named wire-Version.of_numbers wire-Version.of_parts wire-Version.version script-Answers.first_of script-Contents.saying_of script-Contents.sayings script-Contents.expectation_of script-Contents.expectations script-Contents.value_or script-Contents.last_of script-Contents.value_of script-Contents.pair_of script-Contents.pairs script-Contents.given_bytes script-Contents.given_data script-Contents.number_of script-Contents.flag_of script-Contents.items_in script-Contents.rest_of script-Contents.set_of script-Contents.version_in script-Contents.features_in script-Contents.unquoted_of script-Contents.hex_of script-Contents.data_of script-Contents.call_of script-Contents.entry_of script-Contents.is_opening script-Contents.lead script-Contents.or_none script-Contents.entry_on script-Contents.entries script-Contents.preamble_of script-Contents.contents script-Expectations.numbered script-Expectations.about script-Expectations.pattern script-Expectations.comparison script-Expectations.matcher script-Expectations.matching script-Expectations.terminal script-Expectations.field script-Expectations.result script-Expectations.expectation script-Layout.range script-Layout.listed script-Layout.stored_of script-Layout.framed_at script-Layout.laid script-Layout.tables_from script-Layout.maybe script-Layout.maybe_items script-Layout.laid_preamble script-Layout.laid_script script-Operations.key_row script-Operations.same_key script-Operations.keys_of script-Operations.key_in script-Operations.form_of script-Pieces.place_of script-Pieces.place script-Pieces.is_empty script-Pieces.inner script-Pieces.cut_at script-Pieces.bytes script-Pieces.is script-Pieces.begins script-Pieces.ends script-Pieces.behind script-Pieces.trim script-Pieces.cut script-Pieces.cut_or script-Pieces.split script-Pieces.words script-Reading.refused_by script-Reading.first_refused script-Reading.read_marked script-Reading.read_by script-Reading.parsed_by script-Reading.parsed script-Roles.refusal_in script-Roles.behind_signs script-Roles.version_role script-Roles.expect_role script-Roles.saying script-Roles.comment_role script-Roles.protocol_role script-Roles.word_role script-Roles.preamble_expect script-Roles.preamble_role script-Roles.preamble_step script-Roles.set_on script-Roles.not_closed script-Roles.open_on script-Roles.with_name script-Roles.with_stamp script-Roles.opening_role script-Roles.skipped script-Roles.outside_step script-Roles.entry_step script-Roles.argument_line script-Roles.pair_in script-Roles.keyed script-Roles.key_saying script-Roles.raw_saying script-Roles.option_saying script-Roles.saying_in script-Roles.refusal_of_kind script-Roles.refusal_of script-Roles.argument_step script-Roles.block_step script-Roles.step_at script-Roles.step_of script-Roles.roles_from script-Roles.roles script-Sets.non_empty script-Sets.trimmed_items script-Sets.path_items script-Sets.braced_set script-Sets.plain_set script-Sets.path_set script-Sets.features script-Timestamps.digit_run script-Timestamps.fraction script-Timestamps.unsigned script-Timestamps.negative script-Timestamps.small script-Timestamps.no_finite script-Timestamps.some_digits script-Timestamps.exponent script-Timestamps.carried script-Timestamps.time script-Timestamps.with_time script-Timestamps.stamped_at script-Timestamps.stamped script-Values.without_quotes script-Values.inline_of script-Values.framed
reading s = parsed (utf8 s)

-- a part of it, unless the text is refused
abbrev pub given : {A : Type 0} → (Reading → A) → Parsed Reading → Parsed A
given part (Err q) = Err q
given part (Ok r) = Ok (part r)

-- its counts
abbrev pub counts : String → Parsed Counts
counts s = given (λ r. r.script.counts) (reading s)

-- its version
abbrev pub version : String → Parsed ProtocolVersion
version s = given (λ r. r.script.preamble.protocol_version) (reading s)

-- the calls of its entries
abbrev pub calls : String → Parsed (List OpCall)
calls s = given (λ r. map (λ e. e.op_call) r.tables.entries) (reading s)

-- what its expectations say
abbrev pub says : String → Parsed (List Expected)
unfolding judge-Calls.said verdicts-Held.expected_of verdicts-Held.matching_of
says s = given (λ r. said (utf8 s) r.tables.expectations) (reading s)

-- so many entries and items, and nothing else
abbrev pub taking : (entries items : ℕ) → Parsed Counts
taking entries items = Ok (record { entries = entries; items = items; expectations = 0; store = 0 })

-- SetOptions with that verbosity, all else 0
abbrev pub options : (verbosity : ℕ) → OpCall
options verbosity = OpCall.SetOptions (record {
  keep_failed = 0;
  keep_going = 0;
  try_fallback = 0;
  verbosity = verbosity;
  max_build_jobs = 0;
  max_silent_time = 0;
  use_build_hook = 0;
  verbose_build = 0;
  log_type = 0;
  print_build_trace = 0;
  build_cores = 0;
  use_substitutes = 0;
  overrides = record { first = 0; count = 0 };
})

-- ---- what it is judged as

-- a handshake that told no features, and that trust
abbrev pub told : Option ℕ → Subject
told status = greeting (record { server_features = []; daemon_nix_version = None; trust_status = status })

-- the value looked up, every definition open
abbrev pub value : Subject → Expected → Option (List ℕ)
unfolding verdicts-Lookup.joined verdicts-Lookup.braced verdicts-Lookup.trust_of verdicts-Lookup.trust_text verdicts-Lookup.features_text verdicts-Lookup.told_in verdicts-Lookup.looked text-Literal.utf8 text-Unicode.encoded
value s e = looked s e

-- the handshake is judged, whatever it told, and then the script is closed
abbrev pub in_full : HandshakeInfo → (bytes : List ℕ) → (lists : List (List ℕ)) → (scratch : ℕ) → List Call
in_full i bytes lists scratch = judge (record { number = 0; handed = Info i; bytes = bytes; lists = lists; scratch = scratch }) ∷ close ∷ []

-- what the plain judge answers, every definition open
abbrev pub answers : (text : String) → List Call → List (Result Answer Refusal)
unfolding text-Literal.utf8 text-Lines.lines_from text-Lines.lines script-Plain.plain_from script-Plain.plain_lines script-Plain.opened script-Plain.expectation_lines script-Plain.owners judge-Tally.added_all judge-Tally.outcome_of judge-Calls.wrong_number judge-Calls.part_outside judge-Calls.too_long judge-Answers.refused_if judge-Answers.first_refusal judge-Calls.judged_or judge-Answers.closed_or judge-Calls.run plain-PlainJudge.owned plain-PlainJudge.belonging plain-PlainJudge.entry_count plain-PlainJudge.owned_lines plain-PlainJudge.filled plain-PlainJudge.plain_start plain-PlainJudge.plain_refusal plain-PlainJudge.plain_judged plain-PlainJudge.plain_closing plain-PlainJudge.plain_call plain-PlainJudge.plain_run
answers text calls = (plain_run (utf8 text) 0 calls).0

-- an empty pattern stands in any value
empty_passes : (v : List ℕ) → decides (regex []) v ≡ Passed
unfolding text-Parts.starts_with verdicts-Decisions.plain verdicts-Decisions.contains verdicts-Decisions.pattern_decides verdicts-Decisions.passed_if verdicts-Decisions.decides
empty_passes [] = refl
empty_passes (x ∷ rest) = refl

-- ---- the table

abbrev pub Rows : Type 0
Rows =
    -- P1 `"a\\nb"` gives a, backslash, LF, b.
    (unquoted (utf8 "\"a\\\\nb\"") ≡ utf8 "a\\\nb")
    -- P2 `x"+a1"` gives byte 0A. (Hex is what follows `x"`.)
    × (hex_decoded (utf8 "+a1\"") ≡ 0x0A ∷ [])
    -- P3 `x"zz0F"` gives 0F.
    × (hex_decoded (utf8 "zz0F\"") ≡ 0x0F ∷ [])
    -- P4 path set `{a, ,b}`: three items.
    × (counts "---\nQueryMissing {a, ,b}" ≡ taking 1 3)
    -- P5 the same as features: two.
    × (counts "features: {a, ,b}" ≡ taking 0 2)
    -- P6 matcher `//` passes on any value, `/` is exact.
    × ((says "expect result: //" ≡ Ok (result (regex []) ∷ [])) × ((v : List ℕ) → decides (regex []) v ≡ Passed)
    × (says "expect result: /" ≡ Ok (result (exact (utf8 "/")) ∷ [])))
    -- P7 `>= 9223372036854775807` on 9223372036854775808 fails.
    × ((says "expect result: >= 9223372036854775807" ≡ Ok (result (greater_or_equal (pos 9223372036854775807)) ∷ []))
    × (decides (greater_or_equal (pos 9223372036854775807)) (utf8 "9223372036854775808") ≡ Failed))
    -- P8 `{}` against no features fails, the value being `{  }`.
    × ((says "expect server_features: {}" ≡ Ok (server_features (exact (utf8 "{}")) ∷ []))
    × (verdict (told None) (server_features (exact (utf8 "{}"))) ≡ Failed) × (value (told None) (server_features (exact (utf8 "{}"))) ≡ Some (utf8 "{  }")))
    -- P9 empty text: 1.38, nothing checked. (By the plain judge, whatever the handshake told, if its parts lie inside its bytes: else 32.)
    × ((version "" ≡ Ok (record { major = 1; minor = 38 })) × ((i : HandshakeInfo) (bytes : List ℕ) (lists : List (List ℕ)) (scratch : ℕ)
    → parts_in bytes lists (Info i) ≡ true → answers "" (in_full i bytes lists scratch) ≡ Ok Judged ∷ Ok (Closed NothingChecked) ∷ []))
    -- P10 `protocol: 1.256` leaves 1.38.
    × (version "protocol: 1.256" ≡ Ok (record { major = 1; minor = 38 }))
    -- P11 `# nwscript v1` below `---`: 9.
    × ((counts "---\n# nwscript v1" ≡ Err (refusal UnknownOperation 2)) × (reason_number UnknownOperation ≡ 9))
    -- P12 `@1msSyncWithGC` is read.
    × (calls "---\n@1msSyncWithGC" ≡ Ok (OpCall.NoArgs Op.SyncWithGC ∷ []))
    -- P13 `verbosity: 3`, then `verbosity: x`: 0.
    × ((calls "---\nSetOptions\n  verbosity: 3" ≡ Ok (options 3 ∷ [])) × (calls "---\nSetOptions\n  verbosity: 3\n  verbosity: x" ≡ Ok (options 0 ∷ [])))
    -- P14 `QueryValidPaths /a substitute`: one path, flag off.
    × (calls "---\nQueryValidPaths /a substitute" ≡ Ok (OpCall.PathSetFlag Op.QueryValidPaths (record { first = 0; count = 1 }) false ∷ []))
    -- P15 ` expect: Last` with one space below an entry: 9.
    × ((counts "---\nSyncWithGC\n expect: Last" ≡ Err (refusal UnknownOperation 3)) × (reason_number UnknownOperation ≡ 9))
    -- P16 trust 3 is `unknown`.
    × (value (told (Some 3)) (trust (exact (utf8 "unknown"))) ≡ Some (utf8 "unknown"))

pub table : Rows
unfolding reading says value answers reason_number
table = (
  (values.examples).0,
  (values.examples).1,
  (values.examples).2,
  refl,
  refl,
  (refl, empty_passes, refl),
  (refl, (verdicts.examples).4),
  (refl, (verdicts.examples).9, refl),
  (refl, λ i bytes lists scratch h. rw h refl),
  refl,
  (refl, refl),
  refl,
  (refl, refl),
  refl,
  (refl, refl),
  refl,
)
