-- `matchers::matchers::matcher` meets its contract: the first byte tells the form, and the second sign the comparison. Assumes nothing.
use mathlib.Core.Path.{refl, sym, ◌∙◌}
use Rattle.script.specs.declared.records.Matcher.TheVariants.{GreaterThan, LessThan, GreaterOrEqual, LessOrEqual}
use Rattle.pieces.proofs.BehindLaws.{byte_fits}
use Rattle.matchers.proofs.MatcherLaws.{number-bad, greater_or_equal, greater_than, less_or_equal, less_than}
use borrow.Author.Rules.{rules}
use Rattle.matchers.proofs.matchers.matcher.Goals as goal

pub returns-in_err-number_behind-in-62 : goal.returns-in_err-number_behind-in-62
returns-in_err-number_behind-in-62 c = search (rules, number-bad GreaterOrEqual _ _ (greater_or_equal _ _ (sym c.first_byte.ensures ∙ c.in-62.is) _ c.starts_with.ensures.value c.if-starts_with.true) _ c.number_behind.ensures _ c.in_err-number_behind-in-62.was)

pub number_behind-requires-in-62-2 : goal.number_behind-requires-in-62-2
number_behind-requires-in-62-2 c = byte_fits _ _ _ 62 c.args.s.inside c.first_byte.ensures c.in-62.is refl

pub returns-in_err-number_behind-in-62-2 : goal.returns-in_err-number_behind-in-62-2
returns-in_err-number_behind-in-62-2 c = search (rules, number-bad GreaterThan _ _ (greater_than _ _ (sym c.first_byte.ensures ∙ c.in-62.is) _ c.starts_with.ensures.value c.if-starts_with.false) _ c.number_behind-in-62-2.ensures _ c.in_err-number_behind-in-62-2.was)

pub returns-in_err-number_behind-in-60 : goal.returns-in_err-number_behind-in-60
returns-in_err-number_behind-in-60 c = search (rules, number-bad LessOrEqual _ _ (less_or_equal _ _ (sym c.first_byte.ensures ∙ c.in-60.is) _ c.if-starts_with-2.ensures.value refl) _ c.number_behind-in-60.ensures _ c.in_err-number_behind-in-60.was)

pub number_behind-requires-in-60-2 : goal.number_behind-requires-in-60-2
number_behind-requires-in-60-2 c = byte_fits _ _ _ 60 c.args.s.inside c.first_byte.ensures c.in-60.is refl

pub returns-in_err-number_behind-in-60-2 : goal.returns-in_err-number_behind-in-60-2
returns-in_err-number_behind-in-60-2 c = search (rules, number-bad LessThan _ _ (less_than _ _ (sym c.first_byte.ensures ∙ c.in-60.is) _ c.if-starts_with-2.ensures.value refl) _ c.number_behind-in-60-2.ensures _ c.in_err-number_behind-in-60-2.was)
