-- Worked examples of the reading, as theorems that antt computes: the reading part of the table of document 01, and texts where a reading is likely to go
-- wrong. What is wanted came from the Rust, not from the definition. Assumes nothing.
use Rattle.std.specs.Prelude.{Err, None, Ok, Option, Some}
use Prim.Native.Nat.{ℕ}
use Prim.Native.String.{String}
use mathlib.Core.Path.{◌≡◌, refl}
use mathlib.Core.Bool.{Bool, true, false}
use mathlib.Core.List.{List, [], ◌∷◌, map}
use lib.ListN.{length}
use lib.IntN.{pos, negsuc}
use Rattle.text.specs.Base.{LF}
use Rattle.text.specs.Literal.{utf8}
use Rattle.script.specs.Answers as script-Answers
use Rattle.script.specs.Contents as script-Contents
use Rattle.script.specs.Expectations as script-Expectations
use Rattle.script.specs.Layout as script-Layout
use Rattle.script.specs.Operations as script-Operations
use Rattle.script.specs.Pieces as script-Pieces
use Rattle.script.specs.Plain as script-Plain
use Rattle.script.specs.Reading as script-Reading
use Rattle.script.specs.Roles as script-Roles
use Rattle.script.specs.Sets as script-Sets
use Rattle.script.specs.Timestamps as script-Timestamps
use Rattle.script.specs.Values as script-Values
use Rattle.text.specs.Base as text-Base
use Rattle.values.specs.Hex as text-Hex
use Rattle.text.specs.Lines as text-Lines
use Rattle.text.specs.Literal as text-Literal
use Rattle.values.specs.Numbers as text-Numbers
use Rattle.text.specs.Parts as text-Parts
use Rattle.text.specs.Trim as text-Trim
use Rattle.text.specs.Unicode as text-Unicode
use Rattle.values.specs.Unquote as text-Unquote
use Rattle.text.specs.Utf8 as text-Utf8
use Rattle.text.specs.Words as text-Words
use Rattle.wire.specs.Operations as wire-Operations
use Rattle.version.specs.Version as wire-Version
use Rattle.script.specs.Layout.{Reading}
use Rattle.script.specs.Reading.{parsed, Parsed}
use Rattle.script.specs.Refusals.{refusal, reason_number}
use Rattle.script.specs.Plain.{PlainLine, plain_lines, opened, owners}
use Rattle.wire.specs.declared.ops.Op.TheVariants.{the_data as Op}
use Rattle.script.specs.declared.records.Place.{Place}
use Rattle.script.specs.declared.records.Items.{Items}
use Rattle.script.specs.declared.records.Matcher.{Matcher}
use Rattle.script.specs.declared.records.Expect.{Expect}
use Rattle.script.specs.declared.records.Expectation.{Expectation}
use Rattle.script.specs.declared.records.FramedData.{FramedData}
use Rattle.script.specs.declared.records.OpCall.{OpCall}
use Rattle.script.specs.declared.records.Entry.{Entry}
use Rattle.script.specs.declared.records.Preamble.{Preamble}
use Rattle.script.specs.declared.records.Time.{Time}
use Rattle.script.specs.declared.refusals.Reason.TheVariants.{BraceNotClosed, DataUnknown, MatcherNumberUnreadable, NoF64, NotCarried, NotUtf8, UnexpectedPreambleLine, UnknownExpectation, UnknownOperation}

-- the reading of a text, every definition open
abbrev reading : List ℕ → Parsed Reading
unfolding text-Base.within text-Base.overlaid text-Hex.without text-Hex.without_blanks text-Hex.character_starts text-Hex.hex_value text-Hex.hex_byte text-Hex.hex_pairs text-Hex.hex_decoded text-Lines.lines_from text-Lines.lines text-Lines.indented text-Literal.utf8 text-Literal.spells text-Literal.begins_with text-Literal.word_length text-Numbers.all_digits text-Numbers.decimal_from text-Numbers.digits text-Numbers.number text-Numbers.minus text-Numbers.signed text-Parts.starts_with text-Parts.ends_with text-Parts.same_bytes text-Parts.position_from text-Parts.position text-Parts.pair_position_from text-Parts.pair_position text-Parts.split_from text-Parts.split text-Trim.white_bytes text-Trim.backwards text-Trim.begins text-Trim.size_of text-Trim.strip_from text-Trim.trimmed_front text-Trim.trimmed_back text-Trim.trimmed text-Trim.trim_place text-Unicode.encoded text-Unquote.quoted text-Unquote.between text-Unquote.replaced text-Unquote.replaced_in_order text-Unquote.unescaped text-Unquote.unquoted text-Utf8.table text-Utf8.after text-Utf8.well_formed_from text-Utf8.well_formed text-Words.words_from text-Words.words wire-Operations.operation wire-Operations.first wire-Operations.named wire-Version.of_numbers wire-Version.of_parts wire-Version.version script-Answers.first_of script-Contents.saying_of script-Contents.sayings script-Contents.expectation_of script-Contents.expectations script-Contents.value_or script-Contents.last_of script-Contents.value_of script-Contents.pair_of script-Contents.pairs script-Contents.given_bytes script-Contents.given_data script-Contents.number_of script-Contents.flag_of script-Contents.items_in script-Contents.rest_of script-Contents.set_of script-Contents.version_in script-Contents.features_in script-Contents.unquoted_of script-Contents.hex_of script-Contents.data_of script-Contents.call_of script-Contents.entry_of script-Contents.is_opening script-Contents.lead script-Contents.or_none script-Contents.entry_on script-Contents.entries script-Contents.preamble_of script-Contents.contents script-Expectations.numbered script-Expectations.about script-Expectations.pattern script-Expectations.comparison script-Expectations.matcher script-Expectations.matching script-Expectations.terminal script-Expectations.field script-Expectations.result script-Expectations.expectation script-Layout.range script-Layout.listed script-Layout.stored_of script-Layout.framed_at script-Layout.laid script-Layout.tables_from script-Layout.maybe script-Layout.maybe_items script-Layout.laid_preamble script-Layout.laid_script script-Operations.key_row script-Operations.same_key script-Operations.keys_of script-Operations.key_in script-Operations.form_of script-Pieces.place_of script-Pieces.place script-Pieces.is_empty script-Pieces.inner script-Pieces.cut_at script-Pieces.bytes script-Pieces.is script-Pieces.begins script-Pieces.ends script-Pieces.behind script-Pieces.trim script-Pieces.cut script-Pieces.cut_or script-Pieces.split script-Pieces.words script-Plain.under script-Plain.taken_by script-Plain.has_key script-Plain.expectation_line script-Plain.plain_above script-Plain.taken_on script-Plain.plain_below script-Plain.remaining script-Plain.plain_step script-Plain.plain_from script-Plain.stated script-Plain.stated_on script-Plain.plain_lines script-Plain.opened script-Plain.expectation_lines script-Plain.owners script-Plain.leading script-Plain.ranges_from script-Reading.refused_by script-Reading.first_refused script-Reading.read_marked script-Reading.read_by script-Reading.parsed_by script-Reading.parsed script-Reading.measured script-Reading.room script-Reading.too_few script-Reading.fitted script-Reading.read_into script-Roles.refusal_in script-Roles.behind_signs script-Roles.version_role script-Roles.expect_role script-Roles.saying script-Roles.comment_role script-Roles.protocol_role script-Roles.word_role script-Roles.preamble_expect script-Roles.preamble_role script-Roles.preamble_step script-Roles.set_on script-Roles.not_closed script-Roles.open_on script-Roles.with_name script-Roles.with_stamp script-Roles.opening_role script-Roles.skipped script-Roles.outside_step script-Roles.entry_step script-Roles.argument_line script-Roles.pair_in script-Roles.keyed script-Roles.key_saying script-Roles.raw_saying script-Roles.option_saying script-Roles.saying_in script-Roles.refusal_of_kind script-Roles.refusal_of script-Roles.argument_step script-Roles.block_step script-Roles.step_at script-Roles.step_of script-Roles.roles_from script-Roles.roles script-Sets.non_empty script-Sets.trimmed_items script-Sets.path_items script-Sets.braced_set script-Sets.plain_set script-Sets.path_set script-Sets.features script-Timestamps.digit_run script-Timestamps.fraction script-Timestamps.unsigned script-Timestamps.negative script-Timestamps.small script-Timestamps.no_finite script-Timestamps.some_digits script-Timestamps.exponent script-Timestamps.carried script-Timestamps.time script-Timestamps.with_time script-Timestamps.stamped_at script-Timestamps.stamped script-Values.without_quotes script-Values.inline_of script-Values.framed
reading bytes = parsed bytes

abbrev at : ℕ → ℕ → Place
at start len = record { start = start; len = len }

abbrev items : ℕ → ℕ → Items
items first count = record { first = first; count = count }

abbrev entry : ℕ → Option Time → OpCall → Items → Entry
entry line timestamp call expects = record { line = line; timestamp_ms = timestamp; op_call = call; expects = expects }

abbrev stamp : Bool → ℕ → ℕ → Option Time
stamp negative digits decimals = Some (record { negative = negative; digits = digits; decimals = pos decimals })

abbrev expectation : ℕ → Expect → Expectation
expectation line expect = record { line = line; expect = expect }

abbrev options : ℕ → ℕ → ℕ → ℕ → ℕ → ℕ → ℕ → ℕ → ℕ → ℕ → ℕ → ℕ → Items → OpCall
options a b c d e f g h i j k l overrides = OpCall.SetOptions (record {
  keep_failed = a;
  keep_going = b;
  try_fallback = c;
  verbosity = d;
  max_build_jobs = e;
  max_silent_time = f;
  use_build_hook = g;
  verbose_build = h;
  log_type = i;
  print_build_trace = j;
  build_cores = k;
  use_substitutes = l;
  overrides = overrides;
})

abbrev preamble : ℕ → ℕ → Items → Items → Option Place → Option Place → Option Items → Preamble
preamble major minor client expects daemon trust server = record {
  protocol_version = record { major = major; minor = minor };
  client_features = client;
  expects = expects;
  daemon_version = daemon;
  trust = trust;
  server_features = server;
}

-- read: a preamble, entries, items, expectations and the store; the counts are the tables' lengths
abbrev says : Preamble → List Entry → List Place → List Expectation → List ℕ → Parsed Reading
says p es is xs bytes = Ok (record {
  script = record { preamble = p; counts = record { entries = length es; items = length is; expectations = length xs; store = length bytes } };
  tables = record { entries = es; items = is; expectations = xs; store = bytes };
})

-- the same where the preamble says nothing
abbrev reads : List Entry → List Place → List Expectation → List ℕ → Parsed Reading
reads es is xs bytes = says (preamble 1 38 (items 0 0) (items 0 0) None None None) es is xs bytes

-- a case: a text, and its reading
record Case : Type 0 where
  given : List ℕ
  wanted : Parsed Reading

abbrev text : String → Parsed Reading → Case
text given wanted = record { given = utf8 given; wanted = wanted }

abbrev bytes : List ℕ → Parsed Reading → Case
bytes given wanted = record { given = given; wanted = wanted }

-- table P1 to P15 of document 01, as far as reading goes
table : List Case
table =
    -- P1: unescaping is no single walk; P2 and P3: hex
    text "---\nAddTextToStore\n  text: \"a\\\\nb\""
    (reads (entry 2 None (OpCall.AddTextToStore (at 0 0) (at 0 4) (items 0 0)) (items 0 0) ∷ []) [] [] (97 ∷ 92 ∷ 10 ∷ 98 ∷ []))
    ∷ text "---\nBuildDerivation\n  raw x\"+a1\""
    (reads (entry 2 None (OpCall.RawBytes Op.BuildDerivation (at 0 1)) (items 0 0) ∷ []) [] [] (10 ∷ []))
    ∷ text "---\nBuildDerivation\n  raw x\"zz0F\""
    (reads (entry 2 None (OpCall.RawBytes Op.BuildDerivation (at 0 1)) (items 0 0) ∷ []) [] [] (15 ∷ []))
    -- P4: a path set keeps empty items; P5: a feature set drops them
    ∷ text "---\nQueryMissing {a, ,b}"
    (reads (entry 2 None (OpCall.PathSet Op.QueryMissing (items 0 3)) (items 0 0) ∷ []) ((at 18 1) ∷ (at 0 0) ∷ (at 22 1) ∷ []) [] [])
    ∷ text "features: {a, ,b}"
    (says (preamble 1 38 (items 0 2) (items 0 0) None None None) [] ((at 11 1) ∷ (at 15 1) ∷ []) [] [])
    -- P6: `//` is a pattern, `/` is exact
    ∷ text "expect trust: //\nexpect daemon: /"
    (says (preamble 1 38 (items 0 0) (items 0 2) None None None) [] [] (expectation 1 (Expect.Trust (Matcher.Regex (at 0 0))) ∷ expectation 2 (Expect.Daemon (Matcher.Exact (at 32 1))) ∷ []) [])
    -- P9: the empty text; P10: a version that cannot be read
    ∷ text ""
    (reads [] [] [] [])
    ∷ text "protocol: 1.256"
    (reads [] [] [] [])
    -- P11 to P15
    ∷ text "---\n# nwscript v1"
    (Err (refusal UnknownOperation 2))
    ∷ text "---\n@1msSyncWithGC"
    (reads (entry 2 (stamp false 1 0) (OpCall.NoArgs Op.SyncWithGC) (items 0 0) ∷ []) [] [] [])
    ∷ text "---\nSetOptions\n  verbosity: 3\n  verbosity: x"
    (reads (entry 2 None (options 0 0 0 0 0 0 0 0 0 0 0 0 (items 0 0)) (items 0 0) ∷ []) [] [] [])
    ∷ text "---\nQueryValidPaths /a substitute"
    (reads (entry 2 None (OpCall.PathSetFlag Op.QueryValidPaths (items 0 1) false) (items 0 0) ∷ []) ((at 20 13) ∷ []) [] [])
    ∷ text "---\nSyncWithGC\n expect: Last"
    (Err (refusal UnknownOperation 3))
    ∷ []

-- traps
traps : List Case
traps =
    -- lines, white space
    text "---\nIsValidPath cafà\u{3000}\r\n"
    (reads (entry 2 None (OpCall.SinglePath Op.IsValidPath (at 16 5)) (items 0 0) ∷ []) [] [] [])
    ∷ text "\u{feff}# nwscript v1"
    (Err (refusal UnexpectedPreambleLine 1))
    ∷ text "---\nSyncWithGC\n \texpect: Last"
    (Err (refusal UnknownOperation 3))
    ∷ text "features: a\u{3000}b"
    (says (preamble 1 38 (items 0 2) (items 0 0) None None None) [] ((at 10 1) ∷ (at 14 1) ∷ []) [] [])
    ∷ text "---\nIsValidPath\t/a"
    (Err (refusal UnknownOperation 2))
    -- numbers, hex, unquoting
    ∷ text "protocol: +1.+5\nprotocol: 1.38.1"
    (says (preamble 1 5 (items 0 0) (items 0 0) None None None) [] [] [] [])
    ∷ text "expect stderr.count: > -9223372036854775808"
    (says (preamble 1 38 (items 0 0) (items 0 1) None None None) [] [] (expectation 1 (Expect.StderrCount (Matcher.GreaterThan (negsuc 9223372036854775807))) ∷ []) [])
    ∷ text "---\nBuildDerivation\n  raw x\"0é12\""
    (reads (entry 2 None (OpCall.RawBytes Op.BuildDerivation (at 0 1)) (items 0 0) ∷ []) [] [] (18 ∷ []))
    ∷ text "---\nAddMultipleToStore\n  data: x\"ab\"cd\"\n  repair: 00"
    (reads (entry 2 None (OpCall.AddMultipleToStore true false (FramedData.Inline (at 0 1))) (items 0 0) ∷ []) [] [] (171 ∷ []))
    ∷ text "---\nAddTextToStore\n  suffix: \"\\\\\"\""
    (reads (entry 2 None (OpCall.AddTextToStore (at 0 2) (at 0 0) (items 0 0)) (items 0 0) ∷ []) [] [] (92 ∷ 34 ∷ []))
    -- the preamble
    ∷ text "expectresult: 1"
    (Err (refusal UnexpectedPreambleLine 1))
    ∷ text "##daemon:\n# server_features: a\nfeatures: b"
    (says (preamble 1 38 (items 0 1) (items 0 0) (Some (at 0 0)) None (Some (items 1 1))) [] ((at 41 1) ∷ (at 29 1) ∷ []) [] [])
    ∷ text "features: {a}b}"
    (says (preamble 1 38 (items 0 1) (items 0 0) None None None) [] ((at 11 3) ∷ []) [] [])
    -- entries and arguments
    ∷ text "---\nQueryMissing {,}\nQueryMissing { }"
    (reads (entry 2 None (OpCall.PathSet Op.QueryMissing (items 0 2)) (items 0 0) ∷ entry 3 None (OpCall.PathSet Op.QueryMissing (items 0 0)) (items 0 0) ∷ []) ((at 0 0) ∷ (at 0 0) ∷ []) [] [])
    ∷ text "---\nSyncWithGC\n  IsValidPath /a\n  expect: Last"
    (reads (entry 2 None (OpCall.NoArgs Op.SyncWithGC) (items 0 0) ∷ entry 3 None (OpCall.SinglePath Op.IsValidPath (at 29 2)) (items 0 1) ∷ []) [] (expectation 4 (Expect.Terminal (at 42 4)) ∷ []) [])
    ∷ text "---\nVerifyStore\n  \n  repair: 1"
    (Err (refusal UnknownOperation 4))
    ∷ text "---\nSyncWithGC\n  # nwscript v1\n\texpectresult : 1"
    (reads (entry 2 None (OpCall.NoArgs Op.SyncWithGC) (items 0 1) ∷ []) [] (expectation 4 (Expect.Result (Matcher.Exact (at 47 1))) ∷ []) [])
    ∷ text "---\nAddBuildLog /a\n  data: x\"00\"\n  data: x\"01\""
    (Err (refusal UnknownOperation 4))
    ∷ text "---\nBuildDerivation\n  raw  x\"00\""
    (reads (entry 2 None (OpCall.RawBytes Op.BuildDerivation (at 0 0)) (items 0 0) ∷ []) [] [] [])
    ∷ text "---\nCollectGarbage\n  paths: {a\n  paths: {b}"
    (Err (refusal BraceNotClosed 3))
    ∷ text "---\nAddToStore\n  data: x\"00\"\n  data: @file: p\n  name: n"
    (reads (entry 2 None (OpCall.AddToStore (at 0 1) (at 0 0) (items 0 0) false (FramedData.FileRef (at 43 2))) (items 0 0) ∷ []) [] [] (110 ∷ []))
    ∷ text "---\nAddTextToStore\n  text: t\n  suffix: s\n  refs: {r}"
    (reads (entry 2 None (OpCall.AddTextToStore (at 0 1) (at 1 1) (items 0 1)) (items 0 0) ∷ []) ((at 50 1) ∷ []) [] (115 ∷ 116 ∷ []))
    ∷ text "---\nAddMultipleToStore\n  data:"
    (Err (refusal DataUnknown 3))
    ∷ text "---\nSetOptions\n  overrides:\n  \"a: b\" = \"c\"\n  foo\n  \"d\" = \"e\"\n  verbosity : +3"
    (reads (entry 2 None (options 0 0 0 3 0 0 0 0 0 0 0 0 (items 0 2)) (items 0 0) ∷ []) ((at 31 4) ∷ (at 40 1) ∷ []) [] [])
    ∷ text "---\nAddPermRoot /a  /b"
    (reads (entry 2 None (OpCall.AddPermRoot (at 16 2) (at 19 3)) (items 0 0) ∷ []) [] [] [])
    ∷ text "---\nAddSignatures {a b}"
    (reads (entry 2 None (OpCall.AddSignatures (at 18 2) (items 0 1)) (items 0 0) ∷ []) ((at 21 2) ∷ []) [] [])
    ∷ text "---\nQueryValidPaths {/a}substitute"
    (reads (entry 2 None (OpCall.PathSetFlag Op.QueryValidPaths (items 0 1) true) (items 0 0) ∷ []) ((at 21 2) ∷ []) [] [])
    ∷ text "---\nBuildPaths {a} normal\nBuildPathsWithResults"
    (reads (entry 2 None (OpCall.PathSetMode Op.BuildPaths (items 0 1) (at 19 6)) (items 0 0) ∷ entry 3 None (OpCall.PathSetMode Op.BuildPathsWithResults (items 0 0) (at 0 0)) (items 0 0) ∷ []) ((at 16 1) ∷ []) [] [])
    -- timestamps
    ∷ text "---\n@5 AddTempRoot /n/items"
    (Err (refusal NoF64 2))
    ∷ text "---\n@-0.500ms SyncWithGC"
    (reads (entry 2 (stamp true 500 3) (OpCall.NoArgs Op.SyncWithGC) (items 0 0) ∷ []) [] [] [])
    ∷ text "---\n@1e3ms SyncWithGC"
    (Err (refusal NotCarried 2))
    ∷ text "---\n@x Bad {ms"
    (Err (refusal NoF64 2))
    ∷ text "---\n@1234567890123456789ms SyncWithGC"
    (Err (refusal NotCarried 2))
    -- expectations
    ∷ text "---\nFindRoots\n  expect result.: x\n  expect result .a.b : <= 7\n  expect: /x/\n  expect error: / a /"
    (reads (entry 2 None (OpCall.NoArgs Op.FindRoots) (items 0 4) ∷ []) [] (expectation 3 (Expect.ResultField (at 0 0) (Matcher.Exact (at 32 1))) ∷ expectation 4 (Expect.ResultField (at 51 3) (Matcher.LessOrEqual (pos 7))) ∷ expectation 5 (Expect.Terminal (at 72 3)) ∷ expectation 6 (Expect.Error (Matcher.Regex (at 93 3))) ∷ []) [])
    ∷ text "---\nFindRoots\n  expect error : x"
    (Err (refusal UnknownExpectation 3))
    ∷ text "expect trust: > = 5"
    (Err (refusal MatcherNumberUnreadable 1))
    -- no UTF-8: this comes before a refused line
    ∷ bytes (0x7A ∷ LF ∷ 0xC0 ∷ 0x80 ∷ []) (Err (refusal NotUtf8 0))
    ∷ []

-- each text has its reading
table_holds : map (λ c. reading c.given) table ≡ map (λ c. c.wanted) table
unfolding reading table
table_holds = refl

traps_hold : map (λ c. reading c.given) traps ≡ map (λ c. c.wanted) traps
unfolding reading traps
traps_hold = refl

-- ---- the lines as the plain judge sees them: how many open an entry, and the number that each expectation line belongs to

record Lined : Type 0 where
  given : String
  entries : ℕ
  owned : List ℕ

abbrev lined : String → ℕ → List ℕ → Lined
lined given entries owned = record { given = given; entries = entries; owned = owned }

lineds : List Lined
lineds =
    lined "# nwscript v1\nprotocol: 1.38\nexpect trust: trusted\n---\n@0.5ms IsValidPath /nix/store/a\n  expect: Last\n  expect result: 1\n\nSyncWithGC\n" 2 (0 ∷ 1 ∷ 1 ∷ [])
    -- an indented operation opens an entry, unless it was taken as an argument
    ∷ lined "---\nSyncWithGC\n  IsValidPath /a\n  expect: Last" 2 (2 ∷ [])
    ∷ lined "---\nSetOptions\n  IsValidPath /a\n  expect: Last" 1 (1 ∷ [])
    -- a block ends with its first `data` line, or `raw x"` line
    ∷ lined "---\nAddBuildLog /a\n  data: x\"00\"\n  FindRoots\n  expect: Last" 2 (2 ∷ [])
    ∷ lined "---\n@1msBuildDerivation\n  foo\n  raw x\"00\"\n  FindRoots\n  expect: Last" 2 (2 ∷ [])
    -- and at a comment, a blank or an expectation
    ∷ lined "---\nVerifyStore\n  # c\n  FindRoots\n  expect: Last" 2 (2 ∷ [])
    ∷ []

abbrev seen : String → List PlainLine
unfolding text-Base.within text-Base.overlaid text-Hex.without text-Hex.without_blanks text-Hex.character_starts text-Hex.hex_value text-Hex.hex_byte text-Hex.hex_pairs text-Hex.hex_decoded text-Lines.lines_from text-Lines.lines text-Lines.indented text-Literal.utf8 text-Literal.spells text-Literal.begins_with text-Literal.word_length text-Numbers.all_digits text-Numbers.decimal_from text-Numbers.digits text-Numbers.number text-Numbers.minus text-Numbers.signed text-Parts.starts_with text-Parts.ends_with text-Parts.same_bytes text-Parts.position_from text-Parts.position text-Parts.pair_position_from text-Parts.pair_position text-Parts.split_from text-Parts.split text-Trim.white_bytes text-Trim.backwards text-Trim.begins text-Trim.size_of text-Trim.strip_from text-Trim.trimmed_front text-Trim.trimmed_back text-Trim.trimmed text-Trim.trim_place text-Unicode.encoded text-Unquote.quoted text-Unquote.between text-Unquote.replaced text-Unquote.replaced_in_order text-Unquote.unescaped text-Unquote.unquoted text-Utf8.table text-Utf8.after text-Utf8.well_formed_from text-Utf8.well_formed text-Words.words_from text-Words.words wire-Operations.operation wire-Operations.first wire-Operations.named wire-Version.of_numbers wire-Version.of_parts wire-Version.version script-Answers.first_of script-Contents.saying_of script-Contents.sayings script-Contents.expectation_of script-Contents.expectations script-Contents.value_or script-Contents.last_of script-Contents.value_of script-Contents.pair_of script-Contents.pairs script-Contents.given_bytes script-Contents.given_data script-Contents.number_of script-Contents.flag_of script-Contents.items_in script-Contents.rest_of script-Contents.set_of script-Contents.version_in script-Contents.features_in script-Contents.unquoted_of script-Contents.hex_of script-Contents.data_of script-Contents.call_of script-Contents.entry_of script-Contents.is_opening script-Contents.lead script-Contents.or_none script-Contents.entry_on script-Contents.entries script-Contents.preamble_of script-Contents.contents script-Expectations.numbered script-Expectations.about script-Expectations.pattern script-Expectations.comparison script-Expectations.matcher script-Expectations.matching script-Expectations.terminal script-Expectations.field script-Expectations.result script-Expectations.expectation script-Layout.range script-Layout.listed script-Layout.stored_of script-Layout.framed_at script-Layout.laid script-Layout.tables_from script-Layout.maybe script-Layout.maybe_items script-Layout.laid_preamble script-Layout.laid_script script-Operations.key_row script-Operations.same_key script-Operations.keys_of script-Operations.key_in script-Operations.form_of script-Pieces.place_of script-Pieces.place script-Pieces.is_empty script-Pieces.inner script-Pieces.cut_at script-Pieces.bytes script-Pieces.is script-Pieces.begins script-Pieces.ends script-Pieces.behind script-Pieces.trim script-Pieces.cut script-Pieces.cut_or script-Pieces.split script-Pieces.words script-Plain.under script-Plain.taken_by script-Plain.has_key script-Plain.expectation_line script-Plain.plain_above script-Plain.taken_on script-Plain.plain_below script-Plain.remaining script-Plain.plain_step script-Plain.plain_from script-Plain.stated script-Plain.stated_on script-Plain.plain_lines script-Plain.opened script-Plain.expectation_lines script-Plain.owners script-Plain.leading script-Plain.ranges_from script-Reading.refused_by script-Reading.first_refused script-Reading.read_marked script-Reading.read_by script-Reading.parsed_by script-Reading.parsed script-Reading.measured script-Reading.room script-Reading.too_few script-Reading.fitted script-Reading.read_into script-Roles.refusal_in script-Roles.behind_signs script-Roles.version_role script-Roles.expect_role script-Roles.saying script-Roles.comment_role script-Roles.protocol_role script-Roles.word_role script-Roles.preamble_expect script-Roles.preamble_role script-Roles.preamble_step script-Roles.set_on script-Roles.not_closed script-Roles.open_on script-Roles.with_name script-Roles.with_stamp script-Roles.opening_role script-Roles.skipped script-Roles.outside_step script-Roles.entry_step script-Roles.argument_line script-Roles.pair_in script-Roles.keyed script-Roles.key_saying script-Roles.raw_saying script-Roles.option_saying script-Roles.saying_in script-Roles.refusal_of_kind script-Roles.refusal_of script-Roles.argument_step script-Roles.block_step script-Roles.step_at script-Roles.step_of script-Roles.roles_from script-Roles.roles script-Sets.non_empty script-Sets.trimmed_items script-Sets.path_items script-Sets.braced_set script-Sets.plain_set script-Sets.path_set script-Sets.features script-Timestamps.digit_run script-Timestamps.fraction script-Timestamps.unsigned script-Timestamps.negative script-Timestamps.small script-Timestamps.no_finite script-Timestamps.some_digits script-Timestamps.exponent script-Timestamps.carried script-Timestamps.time script-Timestamps.with_time script-Timestamps.stamped_at script-Timestamps.stamped script-Values.without_quotes script-Values.inline_of script-Values.framed
seen s = plain_lines (utf8 s)

lineds_hold :
    (map (λ c. opened (seen c.given)) lineds ≡ map (λ c. c.entries) lineds)
    × (map (λ c. owners 0 (seen c.given)) lineds ≡ map (λ c. c.owned) lineds)
unfolding seen lineds
lineds_hold = (refl, refl)

-- the numbers that document 01 gives the reasons of the refusals above
pub numbers_hold :
    (reason_number NotUtf8 ≡ 2)
    × (reason_number UnexpectedPreambleLine ≡ 3)
    × (reason_number UnknownExpectation ≡ 4)
    × (reason_number MatcherNumberUnreadable ≡ 5)
    × (reason_number NoF64 ≡ 7)
    × (reason_number NotCarried ≡ 8)
    × (reason_number UnknownOperation ≡ 9)
    × (reason_number BraceNotClosed ≡ 10)
    × (reason_number DataUnknown ≡ 11)
unfolding reason_number
numbers_hold = (refl, refl, refl, refl, refl, refl, refl, refl, refl)
