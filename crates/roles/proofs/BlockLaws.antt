-- Laws of argument lines and their refusals for the proofs of code. For `search` to use. Assumes nothing.
use Prim.Native.Nat.{ℕ}
use mathlib.Core.Path.{◌≡◌, refl, sym, ap, ◌∙◌}
use mathlib.Core.Bool.{Bool, true, false}
use mathlib.Core.List.{List}
use Rattle.std.specs.Prelude.{if◌then◌else◌, None, Option, Some}
use Rattle.text.specs.Parts.{starts_with}
use Rattle.text.specs.declared.parts.Span.{Span}
use Rattle.text.proofs.LiteralLaws.{codes}
use Rattle.script.specs.Answers.{first_of}
use Rattle.script.specs.Pieces.{bytes}
use Rattle.script.specs.Operations.{Kind, a_number, a_flag, a_quoted, a_set, some_data, a_list, a_hex, a_version, a_feature_set, a_text, key_row}
use Rattle.script.specs.Values.{plain_rules, framed, inline_of}
use Rattle.script.specs.Roles.{step, opens_list, after_key, after_saying, not_closed, refusal_in, refusal_of_kind, refusal_of, saying_in, argument_step, refused}
use Rattle.script.specs.declared.roles.Key.{Key}
use Rattle.script.specs.declared.roles.Takes.{Takes}
use Rattle.script.specs.declared.roles.Where.{Where}
use Rattle.script.specs.declared.roles.Saying.{Saying}
use Rattle.script.specs.declared.roles.Saying.TheVariants.{Known}
use Rattle.script.specs.declared.roles.Role.TheVariants.{Says}
use Rattle.script.specs.Inside.{In}
use Rattle.arguments.specs.ArgumentRead.{SayingIn}
use Rattle.roles.specs.BlockRead.{kind_of}
use Rattle.roles.specs.declared.argument_steps.ValueKind.{ValueKind}
use Rattle.roles.specs.declared.argument_steps.ValueKind.TheVariants.{Set, Data, Overrides, Other}
use Rattle.pieces.proofs.BehindLaws.{behind-some, behind-none}
use Rattle.script.specs.declared.refusals.Reason.{Reason}
use Rattle.script.specs.declared.refusals.Reason.TheVariants.{BraceNotClosed, DataUnknown}

-- ---- data: r and q are the answers of `pieces::begins`

module _ (text : List ℕ) (v : Span) (r : Bool) (e : r ≡ starts_with (codes "x\"") (bytes text v)) where
  pub data_hex : r ≡ true → None ≡ refusal_in (framed plain_rules text v)
  unfolding refusal_in framed first_of inline_of
  data_hex y = simp (behind-some text v "x\"" r e y)

  module _ (n : r ≡ false) (q : Bool) (d : q ≡ starts_with (codes "@file:") (bytes text v)) where
    pub data_file : q ≡ true → None ≡ refusal_in (framed plain_rules text v)
    unfolding refusal_in framed first_of inline_of
    data_file y = simp (behind-none text v "x\"" r e n, behind-some text v "@file:" q d y)

    pub data_neither : q ≡ false → Some DataUnknown ≡ refusal_in (framed plain_rules text v)
    unfolding refusal_in framed first_of inline_of
    data_neither m = simp (behind-none text v "x\"" r e n, behind-none text v "@file:" q d m)

pub ruleset data_words = (data_hex, data_file, data_neither)

-- ---- a key's value: w is the answer of `value_kind`

module _ (text : List ℕ) (v : Span) (w : ValueKind) where
  refuses : ValueKind → Option Reason
  refuses Set = if not_closed text v then Some BraceNotClosed else None
  refuses Data = refusal_in (framed plain_rules text v)
  refuses Overrides = None
  refuses Other = None

  by_kind : (k : Kind) → refuses (kind_of k) ≡ refusal_of_kind plain_rules text k v
  unfolding refuses kind_of refusal_of_kind refusal_in
  by_kind a_number = refl
  by_kind a_flag = refl
  by_kind a_quoted = refl
  by_kind a_set = refl
  by_kind some_data = refl
  by_kind a_list = refl
  by_kind a_hex = refl
  by_kind a_version = refl
  by_kind a_feature_set = refl
  by_kind a_text = refl

  module _ (k : Kind) (e : w ≡ kind_of k) where
    pub set_open : (r : Bool) → w ≡ Set → r ≡ not_closed text v → r ≡ true → Some BraceNotClosed ≡ refusal_of_kind plain_rules text k v
    unfolding refuses
    set_open r h q y = simp (← q, y) at (ap refuses (sym h ∙ e) ∙ by_kind k)

    pub set_closed : (r : Bool) → w ≡ Set → r ≡ not_closed text v → r ≡ false → None ≡ refusal_of_kind plain_rules text k v
    unfolding refuses
    set_closed r h q n = simp (← q, n) at (ap refuses (sym h ∙ e) ∙ by_kind k)

    pub data_told : (f : Option Reason) → w ≡ Data → f ≡ refusal_in (framed plain_rules text v) → f ≡ refusal_of_kind plain_rules text k v
    unfolding refuses
    data_told f h q = q ∙ ap refuses (sym h ∙ e) ∙ by_kind k

    pub list_fine : w ≡ Overrides → None ≡ refusal_of_kind plain_rules text k v
    unfolding refuses
    list_fine h = ap refuses (sym h ∙ e) ∙ by_kind k

    pub other_fine : w ≡ Other → None ≡ refusal_of_kind plain_rules text k v
    unfolding refuses
    other_fine h = ap refuses (sym h ∙ e) ∙ by_kind k

pub ruleset value_words = (set_open, set_closed, data_told, list_fine, other_fine)

-- ---- the key of an override list opens it

opens : ValueKind → Bool
opens Set = false
opens Data = false
opens Overrides = true
opens Other = false

opens_by_kind : (k : Kind) → opens (kind_of k) ≡ opens_list k
unfolding opens kind_of
opens_by_kind a_number = refl
opens_by_kind a_flag = refl
opens_by_kind a_quoted = refl
opens_by_kind a_set = refl
opens_by_kind some_data = refl
opens_by_kind a_list = refl
opens_by_kind a_hex = refl
opens_by_kind a_version = refl
opens_by_kind a_feature_set = refl
opens_by_kind a_text = refl

module _ (w : ValueKind) (k : Kind) (e : w ≡ kind_of k) where
  pub list-opens : w ≡ Overrides → true ≡ opens_list k
  unfolding opens
  list-opens h = ap opens (sym h ∙ e) ∙ opens_by_kind k

  pub set_opens_none : w ≡ Set → false ≡ opens_list k
  unfolding opens
  set_opens_none h = ap opens (sym h ∙ e) ∙ opens_by_kind k

  pub data_opens_none : w ≡ Data → false ≡ opens_list k
  unfolding opens
  data_opens_none h = ap opens (sym h ∙ e) ∙ opens_by_kind k

  pub other_opens_none : w ≡ Other → false ≡ opens_list k
  unfolding opens
  other_opens_none h = ap opens (sym h ∙ e) ∙ opens_by_kind k

pub ruleset list_words = (list-opens, set_opens_none, data_opens_none, other_opens_none)

-- ---- what was said is known

module _ (text : List ℕ) (s : Saying) (k : Key) (v : Span) (e : s ≡ Known k v) where
  pub known_in : SayingIn text s → In text v
  known_in i = rw e at i

  pub known_refused : (f : Option Reason) → f ≡ refusal_of_kind plain_rules text (key_row k).kind v → f ≡ refusal_of plain_rules text s
  unfolding refusal_of
  known_refused f q = q ∙ rw e

pub known_after : (takes : Takes) (s : Saying) (k : Key) (v : Span) (next : Where) → s ≡ Known k v → next ≡ after_key takes (key_row k).kind → next ≡ after_saying takes s
known_after takes s k v next e q = q ∙ ap (after_saying takes) (sym e)

-- ---- an argument line

module _ (text : List ℕ) (takes : Takes) (list_open : Bool) (t : Span) (s : Saying) (e : s ≡ saying_in text takes list_open t) (next : Where) (a : next ≡ after_saying takes s) (f : Option Reason) (q : f ≡ refusal_of plain_rules text s) where
  pub line-says : f ≡ None → step (Says s) next ≡ argument_step plain_rules text takes list_open t
  unfolding argument_step
  line-says h = simp (← e, a, ← q, h)

  pub line_refused : (n : Reason) → f ≡ Some n → step (refused n) next ≡ argument_step plain_rules text takes list_open t
  unfolding argument_step
  line_refused n h = simp (← e, a, ← q, h)

pub ruleset line-words = (line-says, line_refused)
