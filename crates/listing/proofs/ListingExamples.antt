-- Worked examples of the listing, as theorems that antt computes: the example of document 01, refusals, and texts with nothing to list. What is wanted
-- was worked out from document 01, not from the definition. Assumes nothing.
use Prim.Native.Nat.{ℕ}
use Prim.Native.String.{String}
use mathlib.Core.Path.{◌≡◌, refl}
use mathlib.Core.List.{List, [], ◌∷◌, map}
use Rattle.text.specs.Literal.{utf8}
use Rattle.script.specs.Answers as script-Answers
use Rattle.script.specs.Contents as script-Contents
use Rattle.script.specs.Expectations as script-Expectations
use Rattle.script.specs.Layout as script-Layout
use Rattle.script.specs.Operations as script-Operations
use Rattle.script.specs.Pieces as script-Pieces
use Rattle.script.specs.Reading as script-Reading
use Rattle.script.specs.Refusals as script-Refusals
use Rattle.script.specs.Roles as script-Roles
use Rattle.script.specs.Sets as script-Sets
use Rattle.script.specs.Timestamps as script-Timestamps
use Rattle.script.specs.Values as script-Values
use Rattle.text.specs.Base as text-Base
use Rattle.values.specs.Hex as text-Hex
use Rattle.text.specs.Lines as text-Lines
use Rattle.text.specs.Literal as text-Literal
use Rattle.values.specs.Numbers as text-Numbers
use Rattle.text.specs.Parts as text-Parts
use Rattle.text.specs.Trim as text-Trim
use Rattle.text.specs.Unicode as text-Unicode
use Rattle.values.specs.Unquote as text-Unquote
use Rattle.text.specs.Utf8 as text-Utf8
use Rattle.text.specs.Words as text-Words
use Rattle.wire.specs.Operations as wire-Operations
use Rattle.version.specs.Version as wire-Version
use Rattle.values.specs.Decimal as values-Decimal
use Rattle.call_ops.specs.CallOps as call-CallOps
use Rattle.printed.specs.Listing as listing-Listing
use Rattle.printed.specs.Listing.{listing_of}

-- a text, and what is printed for it
record Case : Type 0 where
  given : String
  wanted : String

abbrev text : String → String → Case
text given wanted = record { given = given; wanted = wanted }

cases : List Case
cases =
    -- the example of document 01
    text "# nwscript v1\nprotocol: 1.38\nexpect trust: trusted\n---\n@0.5ms IsValidPath /nix/store/a\n  expect: Last\n  expect result: 1\n\nSyncWithGC\n"
    "version 1.38 handshake 1 entries 2 expects 2\n5 1 2\n9 13 0\n"
    -- nothing at all, and a preamble with nothing below it
    ∷ text ""
    "version 1.38 handshake 0 entries 0 expects 0\n"
    ∷ text "# nwscript v1\nprotocol: 1.35\nexpect trust: trusted\nexpect daemon: /nix/\n---\n"
    "version 1.35 handshake 2 entries 0 expects 0\n"
    -- an operation of each kind of call
    ∷ text "# nwscript v1\nprotocol: 1.37\n---\nIsValidPath /a\nAddIndirectRoot /a\nQueryMissing {/a}\nQueryValidPaths {/a} substitute\nBuildPaths {/a} repair\nFindRoots\nSetOptions\n  verbosity: 3\nCollectGarbage\n  action: 2\nVerifyStore\n  repair: 1\nAddPermRoot /a /b\nAddSignatures /a {s}\nAddTextToStore\n  text: \"a\"\nAddToStore\n  name: \"n\"\n  data: x\"00\"\nAddMultipleToStore\n  data: @file:f\nAddBuildLog /a\n  data: x\"00\"\nRegisterDrvOutput v\nQueryRealisation v\nQuerySubstitutablePathInfo /a\nQuerySubstitutablePathInfos {/a}\nBuildDerivation\n  raw x\"00\"\n  expect error: /x/\n"
    "version 1.37 handshake 0 entries 20 expects 1\n4 1 0\n5 12 0\n6 40 0\n7 31 0\n8 9 0\n9 14 0\n10 19 0\n12 20 0\n14 35 0\n16 47 0\n17 37 0\n18 8 0\n20 7 0\n23 44 0\n25 45 0\n27 42 0\n28 43 0\n29 21 0\n30 30 0\n31 36 1\n"
    -- a line that is refused; a brace that is not closed, on a later line
    ∷ text "---\nSyncWithGC\nNope\nBuildPaths {/a\n"
    "refused 9 line 3\n"
    ∷ []

abbrev printed : List ℕ → List ℕ
unfolding text-Base.within text-Base.overlaid text-Hex.without text-Hex.without_blanks text-Hex.character_starts text-Hex.hex_value text-Hex.hex_byte text-Hex.hex_pairs text-Hex.hex_decoded text-Lines.lines_from text-Lines.lines text-Lines.indented text-Literal.utf8 text-Literal.spells text-Literal.begins_with text-Literal.word_length text-Numbers.all_digits text-Numbers.decimal_from text-Numbers.digits text-Numbers.number text-Numbers.minus text-Numbers.signed text-Parts.starts_with text-Parts.ends_with text-Parts.same_bytes text-Parts.position_from text-Parts.position text-Parts.pair_position_from text-Parts.pair_position text-Parts.split_from text-Parts.split text-Trim.white_bytes text-Trim.backwards text-Trim.begins text-Trim.size_of text-Trim.strip_from text-Trim.trimmed_front text-Trim.trimmed_back text-Trim.trimmed text-Trim.trim_place text-Unicode.encoded text-Unquote.quoted text-Unquote.between text-Unquote.replaced text-Unquote.replaced_in_order text-Unquote.unescaped text-Unquote.unquoted text-Utf8.table text-Utf8.after text-Utf8.well_formed_from text-Utf8.well_formed text-Words.words_from text-Words.words wire-Operations.operation wire-Operations.first wire-Operations.named wire-Version.of_numbers wire-Version.of_parts wire-Version.version script-Answers.first_of script-Contents.saying_of script-Contents.sayings script-Contents.expectation_of script-Contents.expectations script-Contents.value_or script-Contents.last_of script-Contents.value_of script-Contents.pair_of script-Contents.pairs script-Contents.given_bytes script-Contents.given_data script-Contents.number_of script-Contents.flag_of script-Contents.items_in script-Contents.rest_of script-Contents.set_of script-Contents.version_in script-Contents.features_in script-Contents.unquoted_of script-Contents.hex_of script-Contents.data_of script-Contents.call_of script-Contents.entry_of script-Contents.is_opening script-Contents.lead script-Contents.or_none script-Contents.entry_on script-Contents.entries script-Contents.preamble_of script-Contents.contents script-Expectations.numbered script-Expectations.about script-Expectations.pattern script-Expectations.comparison script-Expectations.matcher script-Expectations.matching script-Expectations.terminal script-Expectations.field script-Expectations.result script-Expectations.expectation script-Layout.range script-Layout.listed script-Layout.stored_of script-Layout.framed_at script-Layout.laid script-Layout.tables_from script-Layout.maybe script-Layout.maybe_items script-Layout.laid_preamble script-Layout.laid_script script-Operations.key_row script-Operations.same_key script-Operations.keys_of script-Operations.key_in script-Operations.form_of script-Pieces.place_of script-Pieces.place script-Pieces.is_empty script-Pieces.inner script-Pieces.cut_at script-Pieces.bytes script-Pieces.is script-Pieces.begins script-Pieces.ends script-Pieces.behind script-Pieces.trim script-Pieces.cut script-Pieces.cut_or script-Pieces.split script-Pieces.words script-Reading.refused_by script-Reading.first_refused script-Reading.read_marked script-Reading.read_by script-Reading.parsed_by script-Reading.parsed script-Reading.measured script-Reading.room script-Reading.too_few script-Reading.fitted script-Reading.read_into script-Refusals.reason_number script-Roles.refusal_in script-Roles.behind_signs script-Roles.version_role script-Roles.expect_role script-Roles.saying script-Roles.comment_role script-Roles.protocol_role script-Roles.word_role script-Roles.preamble_expect script-Roles.preamble_role script-Roles.preamble_step script-Roles.set_on script-Roles.not_closed script-Roles.open_on script-Roles.with_name script-Roles.with_stamp script-Roles.opening_role script-Roles.skipped script-Roles.outside_step script-Roles.entry_step script-Roles.argument_line script-Roles.pair_in script-Roles.keyed script-Roles.key_saying script-Roles.raw_saying script-Roles.option_saying script-Roles.saying_in script-Roles.refusal_of_kind script-Roles.refusal_of script-Roles.argument_step script-Roles.block_step script-Roles.step_at script-Roles.step_of script-Roles.roles_from script-Roles.roles script-Sets.non_empty script-Sets.trimmed_items script-Sets.path_items script-Sets.braced_set script-Sets.plain_set script-Sets.path_set script-Sets.features script-Timestamps.digit_run script-Timestamps.fraction script-Timestamps.unsigned script-Timestamps.negative script-Timestamps.small script-Timestamps.no_finite script-Timestamps.some_digits script-Timestamps.exponent script-Timestamps.carried script-Timestamps.time script-Timestamps.with_time script-Timestamps.stamped_at script-Timestamps.stamped script-Values.without_quotes script-Values.inline_of script-Values.framed values-Decimal.decimal_by values-Decimal.decimal call-CallOps.op_of listing-Listing.after listing-Listing.version_words listing-Listing.header_line listing-Listing.entry_line listing-Listing.entry_lines listing-Listing.refusal_line listing-Listing.listing listing-Listing.listing_of
printed bytes = listing_of bytes

cases_hold : map (λ c. printed (utf8 c.given)) cases ≡ map (λ c. utf8 c.wanted) cases
unfolding printed cases utf8
cases_hold = refl
