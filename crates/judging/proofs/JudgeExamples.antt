-- Worked examples of a list of calls, as theorems that antt computes: P9 of document 01, a preamble with nothing below, and the paper's own script judged with
-- refusals on the way. Assumes nothing.
use Rattle.std.specs.Prelude.{Err, None, Ok, Option, Result, Some}
use Prim.Native.Nat.{ℕ}
use Prim.Native.String.{String}
use mathlib.Core.Path.{◌≡◌, refl}
use mathlib.Core.List.{List, [], ◌∷◌}
use Rattle.text.specs.Base as text-Base
use Rattle.text.specs.Lines as text-Lines
use Rattle.text.specs.Literal as text-Literal
use Rattle.text.specs.Literal.{utf8}
use Rattle.text.specs.Parts as text-Parts
use Rattle.text.specs.Trim as text-Trim
use Rattle.text.specs.Unicode as text-Unicode
use Rattle.text.specs.Utf8 as text-Utf8
use Rattle.text.specs.Words as text-Words
use Rattle.values.specs.Decimal as values-Decimal
use Rattle.values.specs.Hex as text-Hex
use Rattle.values.specs.Numbers as text-Numbers
use Rattle.values.specs.Unquote as text-Unquote
use Rattle.wire.specs.Operations as wire-Operations
use Rattle.version.specs.Version as wire-Version
use Rattle.version.specs.Version.{default_version}
use Rattle.script.specs.Answers as script-Answers
use Rattle.script.specs.Contents as script-Contents
use Rattle.script.specs.Expectations as script-Expectations
use Rattle.script.specs.Layout as script-Layout
use Rattle.script.specs.Operations as script-Operations
use Rattle.script.specs.Pieces as script-Pieces
use Rattle.script.specs.Plain as script-Plain
use Rattle.script.specs.Reading as script-Reading
use Rattle.script.specs.Roles as script-Roles
use Rattle.script.specs.Sets as script-Sets
use Rattle.script.specs.Timestamps as script-Timestamps
use Rattle.script.specs.Values as script-Values
use Rattle.script.specs.Layout.{Reading}
use Rattle.script.specs.Reading.{parsed, Parsed}
use Rattle.script.specs.declared.records.Place.{Place}
use Rattle.script.specs.declared.records.Items.{Items}
use Rattle.script.specs.declared.records.Matcher.TheVariants as Matcher
use Rattle.script.specs.declared.records.Expect.TheVariants as Expect
use Rattle.script.specs.declared.response.ResultData.{ResultData}
use Rattle.script.specs.Refusals.{refusal, reason_number}
use Rattle.script.specs.declared.records.Refusal.{Refusal}
use Rattle.script.specs.declared.refusals.Reason.{Reason}
use Rattle.script.specs.declared.refusals.Reason.TheVariants.{CountTooHigh, ExpectationOutside, FewSlots, NotAllJudged, PartOutside, ValueTooLong, WrongNumber}
use Rattle.verdicts.specs.Decisions as verdicts-Decisions
use Rattle.verdicts.specs.Held as verdicts-Held
use Rattle.verdicts.specs.Lookup as verdicts-Lookup
use Rattle.verdicts.specs.Verdicts as verdicts-Verdicts
use Rattle.verdicts.specs.declared.Verdict.TheVariants.{Passed, Failed}
use Rattle.written.specs.Written as written-Written
use Rattle.tallies.specs.Tally as judge-Tally
use Rattle.tallies.specs.Answers as judge-Answers
use Rattle.verdicts.specs.Subjects as subjects-Subjects
use Rattle.judging.specs.Calls as judge-Calls
use Rattle.judging.specs.PlainJudge as judge-PlainJudge
use Rattle.judging.specs.Judge as judge-Judge
use Rattle.judging.specs.Claim as judge-Claim
use Rattle.judging.specs.Calls.{Call, judge, close}
use Rattle.judging.specs.PlainJudge.{PlainState, plain_run}
use Rattle.judging.specs.Judge.{Lent, JudgeState, judge_step}
use Rattle.judging.specs.Scratch as judge-Scratch
use Rattle.judging.specs.Scratch.{overwritten}
use Rattle.judging.specs.Claim.{our_run}
use Rattle.tallies.specs.declared.tally.Outcome.TheVariants as Outcome
use Rattle.verdicts.specs.declared.handed.Handed.TheVariants.{Info, Response}
use Rattle.tallies.specs.declared.calls.Answer.{Answer}
use Rattle.tallies.specs.declared.calls.Answer.TheVariants.{Judged, Closed}

-- ---- both judges, every definition open

-- the plain judge
abbrev plainly : (text : List ℕ) → (places : ℕ) → List Call → List (Result Answer Refusal) × PlainState
unfolding text-Base.within text-Base.overlaid text-Hex.without text-Hex.without_blanks text-Hex.character_starts text-Hex.hex_value text-Hex.hex_byte text-Hex.hex_pairs text-Hex.hex_decoded text-Lines.lines_from text-Lines.lines text-Lines.indented text-Literal.utf8 text-Literal.spells text-Literal.begins_with text-Literal.word_length text-Numbers.all_digits text-Numbers.decimal_from text-Numbers.digits text-Numbers.number text-Numbers.minus text-Numbers.signed text-Parts.starts_with text-Parts.ends_with text-Parts.same_bytes text-Parts.position_from text-Parts.position text-Parts.pair_position_from text-Parts.pair_position text-Parts.split_from text-Parts.split text-Trim.white_bytes text-Trim.backwards text-Trim.begins text-Trim.size_of text-Trim.strip_from text-Trim.trimmed_front text-Trim.trimmed_back text-Trim.trimmed text-Trim.trim_place text-Unicode.encoded text-Unquote.quoted text-Unquote.between text-Unquote.replaced text-Unquote.replaced_in_order text-Unquote.unescaped text-Unquote.unquoted text-Utf8.table text-Utf8.after text-Utf8.well_formed_from text-Utf8.well_formed text-Words.words_from text-Words.words wire-Operations.operation wire-Operations.first wire-Operations.named wire-Version.of_numbers wire-Version.of_parts wire-Version.version script-Answers.first_of script-Contents.saying_of script-Contents.sayings script-Contents.expectation_of script-Contents.expectations script-Contents.value_or script-Contents.last_of script-Contents.value_of script-Contents.pair_of script-Contents.pairs script-Contents.given_bytes script-Contents.given_data script-Contents.number_of script-Contents.flag_of script-Contents.items_in script-Contents.rest_of script-Contents.set_of script-Contents.version_in script-Contents.features_in script-Contents.unquoted_of script-Contents.hex_of script-Contents.data_of script-Contents.call_of script-Contents.entry_of script-Contents.is_opening script-Contents.lead script-Contents.or_none script-Contents.entry_on script-Contents.entries script-Contents.preamble_of script-Contents.contents script-Expectations.numbered script-Expectations.about script-Expectations.pattern script-Expectations.comparison script-Expectations.matcher script-Expectations.matching script-Expectations.terminal script-Expectations.field script-Expectations.result script-Expectations.expectation script-Layout.range script-Layout.listed script-Layout.stored_of script-Layout.framed_at script-Layout.laid script-Layout.tables_from script-Layout.maybe script-Layout.maybe_items script-Layout.laid_preamble script-Layout.laid_script script-Operations.key_row script-Operations.same_key script-Operations.keys_of script-Operations.key_in script-Operations.form_of script-Pieces.place_of script-Pieces.place script-Pieces.is_empty script-Pieces.inner script-Pieces.cut_at script-Pieces.bytes script-Pieces.is script-Pieces.begins script-Pieces.ends script-Pieces.behind script-Pieces.trim script-Pieces.cut script-Pieces.cut_or script-Pieces.split script-Pieces.words script-Plain.under script-Plain.taken_by script-Plain.has_key script-Plain.expectation_line script-Plain.plain_above script-Plain.taken_on script-Plain.plain_below script-Plain.remaining script-Plain.plain_step script-Plain.plain_from script-Plain.stated script-Plain.stated_on script-Plain.plain_lines script-Plain.opened script-Plain.expectation_lines script-Plain.owners script-Plain.leading script-Plain.ranges_from script-Reading.refused_by script-Reading.first_refused script-Reading.read_marked script-Reading.read_by script-Reading.parsed_by script-Reading.parsed script-Reading.measured script-Reading.room script-Reading.too_few script-Reading.fitted script-Reading.read_into script-Roles.refusal_in script-Roles.behind_signs script-Roles.version_role script-Roles.expect_role script-Roles.saying script-Roles.comment_role script-Roles.protocol_role script-Roles.word_role script-Roles.preamble_expect script-Roles.preamble_role script-Roles.preamble_step script-Roles.set_on script-Roles.not_closed script-Roles.open_on script-Roles.with_name script-Roles.with_stamp script-Roles.opening_role script-Roles.skipped script-Roles.outside_step script-Roles.entry_step script-Roles.argument_line script-Roles.pair_in script-Roles.keyed script-Roles.key_saying script-Roles.raw_saying script-Roles.option_saying script-Roles.saying_in script-Roles.refusal_of_kind script-Roles.refusal_of script-Roles.argument_step script-Roles.block_step script-Roles.step_at script-Roles.step_of script-Roles.roles_from script-Roles.roles script-Sets.non_empty script-Sets.trimmed_items script-Sets.path_items script-Sets.braced_set script-Sets.plain_set script-Sets.path_set script-Sets.features script-Timestamps.digit_run script-Timestamps.fraction script-Timestamps.unsigned script-Timestamps.negative script-Timestamps.small script-Timestamps.no_finite script-Timestamps.some_digits script-Timestamps.exponent script-Timestamps.carried script-Timestamps.time script-Timestamps.with_time script-Timestamps.stamped_at script-Timestamps.stamped script-Values.without_quotes script-Values.inline_of script-Values.framed values-Decimal.decimal_by values-Decimal.decimal verdicts-Lookup.joined verdicts-Lookup.bracketed verdicts-Lookup.braced verdicts-Lookup.flag verdicts-Lookup.fields verdicts-Lookup.value_in verdicts-Lookup.whole_value verdicts-Lookup.daemon_text verdicts-Lookup.trust_of verdicts-Lookup.trust_text verdicts-Lookup.features_text verdicts-Lookup.looked_in verdicts-Lookup.told_in verdicts-Lookup.looked verdicts-Decisions.passed_if verdicts-Decisions.one_of verdicts-Decisions.plain verdicts-Decisions.contains verdicts-Decisions.pattern_decides verdicts-Decisions.ordered verdicts-Decisions.decides verdicts-Verdicts.valued verdicts-Verdicts.named_by verdicts-Verdicts.verdict verdicts-Verdicts.code verdicts-Verdicts.decode verdicts-Held.matching_of verdicts-Held.expected_of verdicts-Held.text_given verdicts-Held.terminal_bytes verdicts-Held.item_text verdicts-Held.texts_in verdicts-Held.texts_given verdicts-Held.path_info_of verdicts-Held.result_of verdicts-Held.response_of verdicts-Held.info_of verdicts-Held.inside verdicts-Held.place_in verdicts-Held.maybe_in verdicts-Held.matcher_in verdicts-Held.expect_in verdicts-Held.items_in verdicts-Held.list_in verdicts-Held.maybe_list_in verdicts-Held.result_in verdicts-Held.response_in verdicts-Held.info_in written-Written.written_at judge-Tally.added_all judge-Tally.outcome_of judge-Tally.over_limit subjects-Subjects.held_by subjects-Subjects.parts_in judge-Calls.said judge-Calls.wrong_number judge-Calls.part_outside judge-Calls.too_long judge-Answers.refused_if judge-Answers.first_refusal judge-Calls.judged_or judge-Answers.closed_or judge-Calls.run judge-PlainJudge.owned judge-PlainJudge.belonging judge-PlainJudge.said_on judge-PlainJudge.entry_count judge-PlainJudge.owned_lines judge-PlainJudge.filled judge-PlainJudge.plain_start judge-PlainJudge.plain_refusal judge-PlainJudge.plain_judged judge-PlainJudge.plain_closing judge-PlainJudge.plain_call judge-PlainJudge.plain_run judge-Judge.all_in judge-Judge.range_for judge-Judge.records_in judge-Judge.said_by judge-Judge.past_entries judge-Judge.range_outside judge-Judge.out_of_reach judge-Judge.few_slots judge-Judge.range_refusals judge-Judge.judge_refusal judge-Judge.refusal_on judge-Judge.judged_by judge-Judge.judged judge-Judge.judged_on judge-Answers.close_refusal judge-Answers.close_answer judge-Judge.judge_step judge-Claim.slot_over judge-Claim.slots_over judge-Claim.state_over judge-Claim.accepted_by judge-Claim.accepted judge-Claim.verdict_by judge-Claim.line_verdict judge-Claim.line_verdicts judge-Claim.verdicts_in judge-Claim.counted judge-Claim.number_of judge-Claim.said_of
plainly text places calls = plain_run text places calls

-- ours, on tables that are just long enough; nothing where the text is refused
abbrev ours : (text verdicts : List ℕ) → List Call → Parsed Reading → List (Result Answer Refusal) × JudgeState
unfolding text-Base.within text-Base.overlaid text-Hex.without text-Hex.without_blanks text-Hex.character_starts text-Hex.hex_value text-Hex.hex_byte text-Hex.hex_pairs text-Hex.hex_decoded text-Lines.lines_from text-Lines.lines text-Lines.indented text-Literal.utf8 text-Literal.spells text-Literal.begins_with text-Literal.word_length text-Numbers.all_digits text-Numbers.decimal_from text-Numbers.digits text-Numbers.number text-Numbers.minus text-Numbers.signed text-Parts.starts_with text-Parts.ends_with text-Parts.same_bytes text-Parts.position_from text-Parts.position text-Parts.pair_position_from text-Parts.pair_position text-Parts.split_from text-Parts.split text-Trim.white_bytes text-Trim.backwards text-Trim.begins text-Trim.size_of text-Trim.strip_from text-Trim.trimmed_front text-Trim.trimmed_back text-Trim.trimmed text-Trim.trim_place text-Unicode.encoded text-Unquote.quoted text-Unquote.between text-Unquote.replaced text-Unquote.replaced_in_order text-Unquote.unescaped text-Unquote.unquoted text-Utf8.table text-Utf8.after text-Utf8.well_formed_from text-Utf8.well_formed text-Words.words_from text-Words.words wire-Operations.operation wire-Operations.first wire-Operations.named wire-Version.of_numbers wire-Version.of_parts wire-Version.version script-Answers.first_of script-Contents.saying_of script-Contents.sayings script-Contents.expectation_of script-Contents.expectations script-Contents.value_or script-Contents.last_of script-Contents.value_of script-Contents.pair_of script-Contents.pairs script-Contents.given_bytes script-Contents.given_data script-Contents.number_of script-Contents.flag_of script-Contents.items_in script-Contents.rest_of script-Contents.set_of script-Contents.version_in script-Contents.features_in script-Contents.unquoted_of script-Contents.hex_of script-Contents.data_of script-Contents.call_of script-Contents.entry_of script-Contents.is_opening script-Contents.lead script-Contents.or_none script-Contents.entry_on script-Contents.entries script-Contents.preamble_of script-Contents.contents script-Expectations.numbered script-Expectations.about script-Expectations.pattern script-Expectations.comparison script-Expectations.matcher script-Expectations.matching script-Expectations.terminal script-Expectations.field script-Expectations.result script-Expectations.expectation script-Layout.range script-Layout.listed script-Layout.stored_of script-Layout.framed_at script-Layout.laid script-Layout.tables_from script-Layout.maybe script-Layout.maybe_items script-Layout.laid_preamble script-Layout.laid_script script-Operations.key_row script-Operations.same_key script-Operations.keys_of script-Operations.key_in script-Operations.form_of script-Pieces.place_of script-Pieces.place script-Pieces.is_empty script-Pieces.inner script-Pieces.cut_at script-Pieces.bytes script-Pieces.is script-Pieces.begins script-Pieces.ends script-Pieces.behind script-Pieces.trim script-Pieces.cut script-Pieces.cut_or script-Pieces.split script-Pieces.words script-Plain.under script-Plain.taken_by script-Plain.has_key script-Plain.expectation_line script-Plain.plain_above script-Plain.taken_on script-Plain.plain_below script-Plain.remaining script-Plain.plain_step script-Plain.plain_from script-Plain.stated script-Plain.stated_on script-Plain.plain_lines script-Plain.opened script-Plain.expectation_lines script-Plain.owners script-Plain.leading script-Plain.ranges_from script-Reading.refused_by script-Reading.first_refused script-Reading.read_marked script-Reading.read_by script-Reading.parsed_by script-Reading.parsed script-Reading.measured script-Reading.room script-Reading.too_few script-Reading.fitted script-Reading.read_into script-Roles.refusal_in script-Roles.behind_signs script-Roles.version_role script-Roles.expect_role script-Roles.saying script-Roles.comment_role script-Roles.protocol_role script-Roles.word_role script-Roles.preamble_expect script-Roles.preamble_role script-Roles.preamble_step script-Roles.set_on script-Roles.not_closed script-Roles.open_on script-Roles.with_name script-Roles.with_stamp script-Roles.opening_role script-Roles.skipped script-Roles.outside_step script-Roles.entry_step script-Roles.argument_line script-Roles.pair_in script-Roles.keyed script-Roles.key_saying script-Roles.raw_saying script-Roles.option_saying script-Roles.saying_in script-Roles.refusal_of_kind script-Roles.refusal_of script-Roles.argument_step script-Roles.block_step script-Roles.step_at script-Roles.step_of script-Roles.roles_from script-Roles.roles script-Sets.non_empty script-Sets.trimmed_items script-Sets.path_items script-Sets.braced_set script-Sets.plain_set script-Sets.path_set script-Sets.features script-Timestamps.digit_run script-Timestamps.fraction script-Timestamps.unsigned script-Timestamps.negative script-Timestamps.small script-Timestamps.no_finite script-Timestamps.some_digits script-Timestamps.exponent script-Timestamps.carried script-Timestamps.time script-Timestamps.with_time script-Timestamps.stamped_at script-Timestamps.stamped script-Values.without_quotes script-Values.inline_of script-Values.framed values-Decimal.decimal_by values-Decimal.decimal verdicts-Lookup.joined verdicts-Lookup.bracketed verdicts-Lookup.braced verdicts-Lookup.flag verdicts-Lookup.fields verdicts-Lookup.value_in verdicts-Lookup.whole_value verdicts-Lookup.daemon_text verdicts-Lookup.trust_of verdicts-Lookup.trust_text verdicts-Lookup.features_text verdicts-Lookup.looked_in verdicts-Lookup.told_in verdicts-Lookup.looked verdicts-Decisions.passed_if verdicts-Decisions.one_of verdicts-Decisions.plain verdicts-Decisions.contains verdicts-Decisions.pattern_decides verdicts-Decisions.ordered verdicts-Decisions.decides verdicts-Verdicts.valued verdicts-Verdicts.named_by verdicts-Verdicts.verdict verdicts-Verdicts.code verdicts-Verdicts.decode verdicts-Held.matching_of verdicts-Held.expected_of verdicts-Held.text_given verdicts-Held.terminal_bytes verdicts-Held.item_text verdicts-Held.texts_in verdicts-Held.texts_given verdicts-Held.path_info_of verdicts-Held.result_of verdicts-Held.response_of verdicts-Held.info_of verdicts-Held.inside verdicts-Held.place_in verdicts-Held.maybe_in verdicts-Held.matcher_in verdicts-Held.expect_in verdicts-Held.items_in verdicts-Held.list_in verdicts-Held.maybe_list_in verdicts-Held.result_in verdicts-Held.response_in verdicts-Held.info_in written-Written.written_at judge-Tally.added_all judge-Tally.outcome_of judge-Tally.over_limit subjects-Subjects.held_by subjects-Subjects.parts_in judge-Calls.said judge-Calls.wrong_number judge-Calls.part_outside judge-Calls.too_long judge-Answers.refused_if judge-Answers.first_refusal judge-Calls.judged_or judge-Answers.closed_or judge-Calls.run judge-PlainJudge.owned judge-PlainJudge.belonging judge-PlainJudge.said_on judge-PlainJudge.entry_count judge-PlainJudge.owned_lines judge-PlainJudge.filled judge-PlainJudge.plain_start judge-PlainJudge.plain_refusal judge-PlainJudge.plain_judged judge-PlainJudge.plain_closing judge-PlainJudge.plain_call judge-PlainJudge.plain_run judge-Judge.all_in judge-Judge.range_for judge-Judge.records_in judge-Judge.said_by judge-Judge.past_entries judge-Judge.range_outside judge-Judge.out_of_reach judge-Judge.few_slots judge-Judge.range_refusals judge-Judge.judge_refusal judge-Judge.refusal_on judge-Judge.judged_by judge-Judge.judged judge-Judge.judged_on judge-Answers.close_refusal judge-Answers.close_answer judge-Judge.judge_step judge-Claim.slot_over judge-Claim.slots_over judge-Claim.state_over judge-Claim.accepted_by judge-Claim.accepted judge-Claim.verdict_by judge-Claim.line_verdict judge-Claim.line_verdicts judge-Claim.verdicts_in judge-Claim.counted judge-Claim.number_of judge-Claim.said_of
ours text verdicts calls (Ok r) = our_run (record { text = text; script = r.script; entries = r.tables.entries; expectations = r.tables.expectations }) verdicts calls
ours text verdicts calls (Err q) = ([], judge-Judge.judge_start verdicts)

abbrev ourly : (text verdicts : List ℕ) → List Call → List (Result Answer Refusal) × JudgeState
unfolding text-Base.within text-Base.overlaid text-Hex.without text-Hex.without_blanks text-Hex.character_starts text-Hex.hex_value text-Hex.hex_byte text-Hex.hex_pairs text-Hex.hex_decoded text-Lines.lines_from text-Lines.lines text-Lines.indented text-Literal.utf8 text-Literal.spells text-Literal.begins_with text-Literal.word_length text-Numbers.all_digits text-Numbers.decimal_from text-Numbers.digits text-Numbers.number text-Numbers.minus text-Numbers.signed text-Parts.starts_with text-Parts.ends_with text-Parts.same_bytes text-Parts.position_from text-Parts.position text-Parts.pair_position_from text-Parts.pair_position text-Parts.split_from text-Parts.split text-Trim.white_bytes text-Trim.backwards text-Trim.begins text-Trim.size_of text-Trim.strip_from text-Trim.trimmed_front text-Trim.trimmed_back text-Trim.trimmed text-Trim.trim_place text-Unicode.encoded text-Unquote.quoted text-Unquote.between text-Unquote.replaced text-Unquote.replaced_in_order text-Unquote.unescaped text-Unquote.unquoted text-Utf8.table text-Utf8.after text-Utf8.well_formed_from text-Utf8.well_formed text-Words.words_from text-Words.words wire-Operations.operation wire-Operations.first wire-Operations.named wire-Version.of_numbers wire-Version.of_parts wire-Version.version script-Answers.first_of script-Contents.saying_of script-Contents.sayings script-Contents.expectation_of script-Contents.expectations script-Contents.value_or script-Contents.last_of script-Contents.value_of script-Contents.pair_of script-Contents.pairs script-Contents.given_bytes script-Contents.given_data script-Contents.number_of script-Contents.flag_of script-Contents.items_in script-Contents.rest_of script-Contents.set_of script-Contents.version_in script-Contents.features_in script-Contents.unquoted_of script-Contents.hex_of script-Contents.data_of script-Contents.call_of script-Contents.entry_of script-Contents.is_opening script-Contents.lead script-Contents.or_none script-Contents.entry_on script-Contents.entries script-Contents.preamble_of script-Contents.contents script-Expectations.numbered script-Expectations.about script-Expectations.pattern script-Expectations.comparison script-Expectations.matcher script-Expectations.matching script-Expectations.terminal script-Expectations.field script-Expectations.result script-Expectations.expectation script-Layout.range script-Layout.listed script-Layout.stored_of script-Layout.framed_at script-Layout.laid script-Layout.tables_from script-Layout.maybe script-Layout.maybe_items script-Layout.laid_preamble script-Layout.laid_script script-Operations.key_row script-Operations.same_key script-Operations.keys_of script-Operations.key_in script-Operations.form_of script-Pieces.place_of script-Pieces.place script-Pieces.is_empty script-Pieces.inner script-Pieces.cut_at script-Pieces.bytes script-Pieces.is script-Pieces.begins script-Pieces.ends script-Pieces.behind script-Pieces.trim script-Pieces.cut script-Pieces.cut_or script-Pieces.split script-Pieces.words script-Plain.under script-Plain.taken_by script-Plain.has_key script-Plain.expectation_line script-Plain.plain_above script-Plain.taken_on script-Plain.plain_below script-Plain.remaining script-Plain.plain_step script-Plain.plain_from script-Plain.stated script-Plain.stated_on script-Plain.plain_lines script-Plain.opened script-Plain.expectation_lines script-Plain.owners script-Plain.leading script-Plain.ranges_from script-Reading.refused_by script-Reading.first_refused script-Reading.read_marked script-Reading.read_by script-Reading.parsed_by script-Reading.parsed script-Reading.measured script-Reading.room script-Reading.too_few script-Reading.fitted script-Reading.read_into script-Roles.refusal_in script-Roles.behind_signs script-Roles.version_role script-Roles.expect_role script-Roles.saying script-Roles.comment_role script-Roles.protocol_role script-Roles.word_role script-Roles.preamble_expect script-Roles.preamble_role script-Roles.preamble_step script-Roles.set_on script-Roles.not_closed script-Roles.open_on script-Roles.with_name script-Roles.with_stamp script-Roles.opening_role script-Roles.skipped script-Roles.outside_step script-Roles.entry_step script-Roles.argument_line script-Roles.pair_in script-Roles.keyed script-Roles.key_saying script-Roles.raw_saying script-Roles.option_saying script-Roles.saying_in script-Roles.refusal_of_kind script-Roles.refusal_of script-Roles.argument_step script-Roles.block_step script-Roles.step_at script-Roles.step_of script-Roles.roles_from script-Roles.roles script-Sets.non_empty script-Sets.trimmed_items script-Sets.path_items script-Sets.braced_set script-Sets.plain_set script-Sets.path_set script-Sets.features script-Timestamps.digit_run script-Timestamps.fraction script-Timestamps.unsigned script-Timestamps.negative script-Timestamps.small script-Timestamps.no_finite script-Timestamps.some_digits script-Timestamps.exponent script-Timestamps.carried script-Timestamps.time script-Timestamps.with_time script-Timestamps.stamped_at script-Timestamps.stamped script-Values.without_quotes script-Values.inline_of script-Values.framed values-Decimal.decimal_by values-Decimal.decimal verdicts-Lookup.joined verdicts-Lookup.bracketed verdicts-Lookup.braced verdicts-Lookup.flag verdicts-Lookup.fields verdicts-Lookup.value_in verdicts-Lookup.whole_value verdicts-Lookup.daemon_text verdicts-Lookup.trust_of verdicts-Lookup.trust_text verdicts-Lookup.features_text verdicts-Lookup.looked_in verdicts-Lookup.told_in verdicts-Lookup.looked verdicts-Decisions.passed_if verdicts-Decisions.one_of verdicts-Decisions.plain verdicts-Decisions.contains verdicts-Decisions.pattern_decides verdicts-Decisions.ordered verdicts-Decisions.decides verdicts-Verdicts.valued verdicts-Verdicts.named_by verdicts-Verdicts.verdict verdicts-Verdicts.code verdicts-Verdicts.decode verdicts-Held.matching_of verdicts-Held.expected_of verdicts-Held.text_given verdicts-Held.terminal_bytes verdicts-Held.item_text verdicts-Held.texts_in verdicts-Held.texts_given verdicts-Held.path_info_of verdicts-Held.result_of verdicts-Held.response_of verdicts-Held.info_of verdicts-Held.inside verdicts-Held.place_in verdicts-Held.maybe_in verdicts-Held.matcher_in verdicts-Held.expect_in verdicts-Held.items_in verdicts-Held.list_in verdicts-Held.maybe_list_in verdicts-Held.result_in verdicts-Held.response_in verdicts-Held.info_in written-Written.written_at judge-Tally.added_all judge-Tally.outcome_of judge-Tally.over_limit subjects-Subjects.held_by subjects-Subjects.parts_in judge-Calls.said judge-Calls.wrong_number judge-Calls.part_outside judge-Calls.too_long judge-Answers.refused_if judge-Answers.first_refusal judge-Calls.judged_or judge-Answers.closed_or judge-Calls.run judge-PlainJudge.owned judge-PlainJudge.belonging judge-PlainJudge.said_on judge-PlainJudge.entry_count judge-PlainJudge.owned_lines judge-PlainJudge.filled judge-PlainJudge.plain_start judge-PlainJudge.plain_refusal judge-PlainJudge.plain_judged judge-PlainJudge.plain_closing judge-PlainJudge.plain_call judge-PlainJudge.plain_run judge-Judge.all_in judge-Judge.range_for judge-Judge.records_in judge-Judge.said_by judge-Judge.past_entries judge-Judge.range_outside judge-Judge.out_of_reach judge-Judge.few_slots judge-Judge.range_refusals judge-Judge.judge_refusal judge-Judge.refusal_on judge-Judge.judged_by judge-Judge.judged judge-Judge.judged_on judge-Answers.close_refusal judge-Answers.close_answer judge-Judge.judge_step judge-Claim.slot_over judge-Claim.slots_over judge-Claim.state_over judge-Claim.accepted_by judge-Claim.accepted judge-Claim.verdict_by judge-Claim.line_verdict judge-Claim.line_verdicts judge-Claim.verdicts_in judge-Claim.counted judge-Claim.number_of judge-Claim.said_of
ourly text verdicts calls = ours text verdicts calls (parsed text)

-- ---- calls

abbrev refused : Reason → Result Answer Refusal
refused r = Err (refusal r 0)

abbrev nowhere : Items
nowhere = record { first = 0; count = 0 }

-- a handshake with that trust, no features and no version
abbrev greet : (number : ℕ) → Option ℕ → (scratch : ℕ) → Call
greet number trust scratch = judge (record {
  number = number;
  handed = Info (record {
    client_version = default_version;
    server_version = default_version;
    negotiated_version = default_version;
    client_features = nowhere;
    server_features = nowhere;
    daemon_nix_version = None;
    trust_status = trust;
  });
  bytes = [];
  lists = [];
  scratch = scratch;
})

-- a response that ends with `Last`, if so many bytes of it are there, and gave that result
abbrev reply : (number : ℕ) → (bytes : String) → ResultData → (scratch : ℕ) → Call
reply number bytes result scratch = judge (record {
  number = number;
  handed = Response (record { terminal = record { start = 0; len = 4 }; stderr_count = 0; result = result; error = None });
  bytes = utf8 bytes;
  lists = [];
  scratch = scratch;
})

-- ---- nothing checked

-- the handshake is judged, and the script is closed
abbrev in_full : List Call
in_full = close ∷ greet 0 (Some 1) 0 ∷ close ∷ []

abbrev nothing_checked : List (Result Answer Refusal) × PlainState
nothing_checked = (refused NotAllJudged ∷ Ok Judged ∷ Ok (Closed Outcome.NothingChecked) ∷ [], record { next = 1; slots = []; counts = judge-Tally.no_counts })

abbrev preamble_only : List ℕ
unfolding text-Literal.utf8 text-Unicode.encoded
preamble_only = utf8 "# nwscript v1\nprotocol: 1.38\n# trust: trusted\n---\n"

-- P9: the empty text; a preamble with nothing below; the same by our judge
nothing_checked_lem :
    (plainly [] 0 in_full ≡ nothing_checked)
    × (plainly preamble_only 0 in_full ≡ nothing_checked)
    × ((ourly [] [] in_full).0 ≡ nothing_checked.0)
    × ((ourly preamble_only [] in_full).0 ≡ nothing_checked.0)
unfolding plainly ours ourly preamble_only
nothing_checked_lem = (refl, refl, refl, refl)

-- ---- the script of document 01

abbrev paper : List ℕ
unfolding text-Literal.utf8 text-Unicode.encoded
paper = utf8 "# nwscript v1\nprotocol: 1.38\nexpect trust: trusted\n---\n@0.5ms IsValidPath /nix/store/a\n  expect: Last\n  expect result: 1\n\nSyncWithGC\n"

-- judged to the end: numbers out of turn, a scratch that is too short for `trusted`, a name that is not all there
abbrev some_refused : (result : ℕ) → List Call
unfolding text-Literal.utf8 text-Unicode.encoded
some_refused result =
    close
    ∷ reply 1 "Last" (ResultData.U64 result) 9
    ∷ greet 1 (Some 1) 9
    ∷ greet 0 (Some 1) 6
    ∷ greet 0 (Some 1) 7
    ∷ greet 0 (Some 1) 7
    ∷ reply 1 "Las" (ResultData.U64 result) 9
    ∷ reply 1 "Last" (ResultData.U64 result) 1
    ∷ close
    ∷ reply 2 "Last" ResultData.Absent 0
    ∷ reply 3 "Last" ResultData.Absent 0
    ∷ close
    ∷ []

abbrev the_answers : Result Answer Refusal → List (Result Answer Refusal)
the_answers last =
    refused NotAllJudged
    ∷ refused WrongNumber
    ∷ refused WrongNumber
    ∷ refused ValueTooLong
    ∷ Ok Judged
    ∷ refused WrongNumber
    ∷ refused PartOutside
    ∷ Ok Judged
    ∷ refused NotAllJudged
    ∷ Ok Judged
    ∷ refused WrongNumber
    ∷ last
    ∷ []

paper_judged :
    (plainly paper 4 (some_refused 1)
    ≡ (
      the_answers (Ok (Closed Outcome.Passed)),
      record { next = 3; slots = Some Passed ∷ Some Passed ∷ Some Passed ∷ []; counts = record { passed = 3; failed = 0; undecided = 0 } },
    ))
    × (plainly paper 4 (some_refused 2)
    ≡ (
      the_answers (Ok (Closed Outcome.Failed)),
      record { next = 3; slots = Some Passed ∷ Some Passed ∷ Some Failed ∷ []; counts = record { passed = 2; failed = 1; undecided = 0 } },
    ))
    -- three lines want three slots
    × ((plainly paper 2 (greet 0 (Some 1) 7 ∷ [])).0 ≡ refused FewSlots ∷ [])
    -- ours leaves a fourth slot as it was
    × (ourly paper (9 ∷ 9 ∷ 9 ∷ 9 ∷ []) (some_refused 2)
    ≡ (
      the_answers (Ok (Closed Outcome.Failed)),
      record { next = 3; counts = record { passed = 2; failed = 1; undecided = 0 }; verdicts = 1 ∷ 1 ∷ 2 ∷ 9 ∷ [] },
    ))
unfolding plainly ours ourly paper some_refused
paper_judged = (refl, refl, refl, refl)

-- ---- what may be forged

abbrev words : List ℕ
unfolding text-Literal.utf8 text-Unicode.encoded
words = utf8 "trusted"

-- a script whose handshake has the expectations of a range; its table holds one, of a text at that place
abbrev forged : Items → Place → Lent
forged r p = record {
  text = words;
  script = record {
    preamble = record {
      protocol_version = default_version;
      client_features = nowhere;
      expects = r;
      daemon_version = None;
      trust = None;
      server_features = None;
    };
    counts = record { entries = 0; items = 0; expectations = 1; store = 0 };
  };
  entries = [];
  expectations = record { line = 1; expect = Expect.Trust (Matcher.Exact p) } ∷ [];
}

-- the handshake, with that list of features and that scratch
abbrev greeted : (number : ℕ) → Items → (scratch : ℕ) → Call
greeted number features scratch = judge (record {
  number = number;
  handed = Info (record {
    client_version = default_version;
    server_version = default_version;
    negotiated_version = default_version;
    client_features = nowhere;
    server_features = features;
    daemon_nix_version = None;
    trust_status = Some 1;
  });
  bytes = [];
  lists = [];
  scratch = scratch;
})

-- a judging after so many passed, with so many slots
abbrev answered : (passed : ℕ) → (verdicts : List ℕ) → Items → Place → Call → Result Answer Refusal
unfolding text-Base.within text-Base.overlaid text-Literal.utf8 text-Literal.spells text-Literal.begins_with text-Literal.word_length text-Parts.starts_with text-Parts.ends_with text-Parts.same_bytes text-Parts.position_from text-Parts.position text-Parts.pair_position_from text-Parts.pair_position text-Parts.split_from text-Parts.split text-Unicode.encoded script-Reading.refused_by script-Reading.first_refused script-Reading.read_marked script-Reading.read_by script-Reading.parsed_by script-Reading.parsed script-Reading.measured script-Reading.room script-Reading.too_few script-Reading.fitted script-Reading.read_into values-Decimal.decimal_by values-Decimal.decimal verdicts-Lookup.joined verdicts-Lookup.bracketed verdicts-Lookup.braced verdicts-Lookup.flag verdicts-Lookup.fields verdicts-Lookup.value_in verdicts-Lookup.whole_value verdicts-Lookup.daemon_text verdicts-Lookup.trust_of verdicts-Lookup.trust_text verdicts-Lookup.features_text verdicts-Lookup.looked_in verdicts-Lookup.told_in verdicts-Lookup.looked verdicts-Decisions.passed_if verdicts-Decisions.one_of verdicts-Decisions.plain verdicts-Decisions.contains verdicts-Decisions.pattern_decides verdicts-Decisions.ordered verdicts-Decisions.decides verdicts-Verdicts.valued verdicts-Verdicts.named_by verdicts-Verdicts.verdict verdicts-Verdicts.code verdicts-Verdicts.decode verdicts-Held.matching_of verdicts-Held.expected_of verdicts-Held.text_given verdicts-Held.terminal_bytes verdicts-Held.item_text verdicts-Held.texts_in verdicts-Held.texts_given verdicts-Held.path_info_of verdicts-Held.result_of verdicts-Held.response_of verdicts-Held.info_of verdicts-Held.inside verdicts-Held.place_in verdicts-Held.maybe_in verdicts-Held.matcher_in verdicts-Held.expect_in verdicts-Held.items_in verdicts-Held.list_in verdicts-Held.maybe_list_in verdicts-Held.result_in verdicts-Held.response_in verdicts-Held.info_in written-Written.written_at judge-Tally.added_all judge-Tally.outcome_of judge-Tally.over_limit subjects-Subjects.held_by subjects-Subjects.parts_in judge-Calls.said judge-Calls.wrong_number judge-Calls.part_outside judge-Calls.too_long judge-Answers.refused_if judge-Answers.first_refusal judge-Calls.judged_or judge-Answers.closed_or judge-Calls.run judge-Judge.all_in judge-Judge.range_for judge-Judge.records_in judge-Judge.said_by judge-Judge.past_entries judge-Judge.range_outside judge-Judge.out_of_reach judge-Judge.few_slots judge-Judge.range_refusals judge-Judge.judge_refusal judge-Judge.refusal_on judge-Judge.judged_by judge-Judge.judged judge-Judge.judged_on judge-Answers.close_refusal judge-Answers.close_answer judge-Judge.judge_step
answered passed verdicts r p c = (judge_step (forged r p) (record { next = 0; counts = record { passed = passed; failed = 0; undecided = 0 }; verdicts = verdicts }) c).0

abbrev items : ℕ → ℕ → Items
items first count = record { first = first; count = count }

abbrev at : ℕ → ℕ → Place
at start len = record { start = start; len = len }

-- where several apply, the first in this order
in_order :
    (answered 32769 [] (items 1000000000 1) (at 0 8) (greeted 1 (items 0 1) 6) ≡ refused CountTooHigh)
    × (answered 32768 [] (items 1000000000 1) (at 0 8) (greeted 1 (items 0 1) 6) ≡ refused WrongNumber)
    × (answered 32768 [] (items 1000000000 1) (at 0 7) (greeted 0 (items 0 1) 6) ≡ refused ExpectationOutside)
    × (answered 0 [] (items 0 1) (at 0 8) (greeted 0 (items 0 1) 6) ≡ refused ExpectationOutside)
    × (answered 0 [] (items 0 1) (at 18446744073709551615 2) (greeted 0 (items 0 1) 6) ≡ refused ExpectationOutside)
    × (answered 0 [] (items 0 1) (at 0 7) (greeted 0 (items 0 1) 6) ≡ refused PartOutside)
    × (answered 0 [] (items 0 1) (at 0 7) (greeted 0 nowhere 6) ≡ refused FewSlots)
    × (answered 0 (9 ∷ []) (items 0 1) (at 0 7) (greeted 0 nowhere 6) ≡ refused ValueTooLong)
    × (answered 0 (9 ∷ []) (items 0 1) (at 0 7) (greeted 0 nowhere 7) ≡ Ok Judged)
    -- nothing is to be judged: no expectation is outside, and no value too long
    × (answered 0 (9 ∷ []) (items 1000000000 0) (at 0 8) (greeted 0 nowhere 0) ≡ Ok Judged)
    -- values `abc`, then none, then `x`, in a scratch of four bytes
    × (overwritten (Some (97 ∷ 98 ∷ 99 ∷ []) ∷ None ∷ Some (120 ∷ []) ∷ []) (0 ∷ 0 ∷ 0 ∷ 0 ∷ []) ≡ 120 ∷ 98 ∷ 99 ∷ 0 ∷ [])
unfolding answered words text-Base.overlaid judge-Scratch.overwritten_by judge-Scratch.overwritten
in_order = (refl, refl, refl, refl, refl, refl, refl, refl, refl, refl, refl)

-- the numbers that document 01 gives the reasons above
pub numbers_hold :
    (reason_number ExpectationOutside ≡ 31)
    × (reason_number PartOutside ≡ 32)
    × (reason_number WrongNumber ≡ 33)
    × (reason_number ValueTooLong ≡ 34)
    × (reason_number FewSlots ≡ 35)
    × (reason_number CountTooHigh ≡ 36)
    × (reason_number NotAllJudged ≡ 37)
unfolding reason_number
numbers_hold = (refl, refl, refl, refl, refl, refl, refl)
