-- Laws of steps for the proofs of code: what a line is, from how it begins. For `search` to use. Assumes nothing.
use Prim.Native.Nat.{ℕ, ◌-◌}
use mathlib.Core.Path.{◌≡◌, refl, sym, ap, ◌∙◌}
use mathlib.Core.Bool.{Bool, true, false, not}
use mathlib.Core.List.{List, []}
use native.Mathlib.Omega.{arith}
use lib.ListN.{length}
use borrow.Author.Tests.{eq-eqb, eqb-true}
use Rattle.std.specs.Prelude.{if◌then◌else◌}
use Rattle.text.specs.Base.{◌&◌, ◌or◌, part}
use Rattle.text.specs.Lines.{indented}
use Rattle.text.specs.Parts.{span, starts_with}
use Rattle.text.specs.declared.lines.Line.{Line}
use Rattle.text.specs.declared.parts.Span.{Span}
use Rattle.text.specs.Literal.{spells, utf8}
use Rattle.text.proofs.LiteralLaws.{codes}
use Rattle.text.proofs.Scan.{never}
use Rattle.text.proofs.TrimLaws.{trim-inside}
use Rattle.script.specs.Pieces.{bytes, is_empty, is, begins, trim}
use Rattle.script.specs.Values.{plain_rules}
use Rattle.script.specs.Roles.{line_span, step, expect_role, preamble_role, preamble_step, skipped, outside_step, entry_step, argument_line, argument_step, block_step, step_at, step_of}
use Rattle.script.specs.declared.roles.Role.{Role}
use Rattle.script.specs.declared.roles.Role.TheVariants.{Nothing}
use Rattle.script.specs.declared.roles.Step.{Step}
use Rattle.script.specs.declared.roles.Takes.{Takes}
use Rattle.script.specs.declared.roles.Where.{Where}
use Rattle.script.specs.declared.roles.Where.TheVariants.{InPreamble, Outside, InBlock, InEntry}
use Rattle.roles.specs.StepRead.{front_of, sorted_step, below_nothing}
use Rattle.openings.specs.OpeningRead.{opening_step}
use Rattle.roles.specs.declared.steps.Sort.{Sort}
use Rattle.roles.specs.declared.steps.Sort.TheVariants as sort
use Rattle.roles.specs.declared.steps.Front.{Front}
use Rattle.roles.specs.declared.steps.Front.TheVariants.{Skipped, Expect, Other}
use Rattle.pieces.proofs.BehindLaws.{begins-is}

module _ (text : List ℕ) (t : Span) where
  -- ---- how a line begins

  module _ (a : Bool) (z : a ≡ is_empty t) where
    pub front_blank : a ≡ true → Skipped ≡ front_of text t
    unfolding front_of
    front_blank h = rw (sym z ∙ h)

    module _ (h : a ≡ false) (b : Bool) (e : b ≡ starts_with (codes "#") (bytes text t)) where
      pub front_comment : b ≡ true → Skipped ≡ front_of text t
      unfolding front_of
      front_comment y = rw (sym z ∙ h, begins-is text t "#" b e, y)

      module _ (n : b ≡ false) (d : Bool) (k : d ≡ starts_with (codes "expect") (bytes text t)) where
        pub front_expect : d ≡ true → Expect ≡ front_of text t
        unfolding front_of
        front_expect y = rw (sym z ∙ h, begins-is text t "#" b e, n, begins-is text t "expect" d k, y)

        pub front_other : d ≡ false → Other ≡ front_of text t
        unfolding front_of
        front_other m = rw (sym z ∙ h, begins-is text t "#" b e, n, begins-is text t "expect" d k, m)

  -- ---- what it is where argument lines have ended, and where they may stand

  fronted : (other : Step) → Front → Step
  fronted other Skipped = step Nothing InEntry
  fronted other Expect = step (expect_role text t) InEntry
  fronted other Other = other

  by_front : (a b c : Bool) (other : Step) → (if a or b then step Nothing InEntry else if c then step (expect_role text t) InEntry else other) ≡ fronted other (if a or b then Skipped else if c then Expect else Other)
  unfolding fronted
  by_front true b c other = refl
  by_front false true c other = refl
  by_front false false true other = refl
  by_front false false false other = refl

  entry_by : entry_step text true t ≡ fronted (outside_step text t) (front_of text t)
  unfolding front_of entry_step
  entry_by = by_front (is_empty t) (begins text "#" t) (begins text "expect" t) (outside_step text t)

  module _ (takes : Takes) (list_open : Bool) where
    -- a line that is no argument line is one of those that the entry has below them
    no_argument : (a b c : Bool) (other line : Step) → (if true & not (a or b or c) then line else if true & (a or b) then step Nothing InEntry else if true & c then step (expect_role text t) InEntry else other) ≡ fronted line (if a or b then Skipped else if c then Expect else Other)
    unfolding fronted
    no_argument true b c other line = refl
    no_argument false true c other line = refl
    no_argument false false true other line = refl
    no_argument false false false other line = refl

    block_by : block_step plain_rules text takes list_open true t ≡ fronted (argument_step plain_rules text takes list_open t) (front_of text t)
    unfolding front_of entry_step block_step argument_line
    block_by = no_argument (is_empty t) (begins text "#" t) (begins text "expect" t) (outside_step text t) (argument_step plain_rules text takes list_open t)

  -- an indented line, by how it begins
  module _ (whole other : Step) (by : whole ≡ fronted other (front_of text t)) (f : Front) (e : f ≡ front_of text t) where
    with_skipped : f ≡ Skipped → step Nothing InEntry ≡ whole
    unfolding fronted
    with_skipped h = sym (by ∙ ap (fronted other) (sym e ∙ h))

    with_expect : (r : Role) → f ≡ Expect → r ≡ expect_role text t → step r InEntry ≡ whole
    unfolding fronted
    with_expect r h q = rw q (sym (by ∙ ap (fronted other) (sym e ∙ h)))

    with_other : (s : Step) → f ≡ Other → s ≡ other → s ≡ whole
    unfolding fronted
    with_other s h q = q ∙ sym (by ∙ ap (fronted other) (sym e ∙ h))

  module _ (inward : Bool) where
    pub entry_outside : (s : Step) → inward ≡ false → s ≡ outside_step text t → s ≡ entry_step text inward t
    unfolding entry_step
    entry_outside s n q = q ∙ rw n

    module _ (y : inward ≡ true) (f : Front) (e : f ≡ front_of text t) where
      pub entry_skipped : f ≡ Skipped → step Nothing InEntry ≡ entry_step text inward t
      entry_skipped h = rw y (with_skipped (entry_step text true t) (outside_step text t) entry_by f e h)

      pub entry_expect : (r : Role) → f ≡ Expect → r ≡ expect_role text t → step r InEntry ≡ entry_step text inward t
      entry_expect r h q = rw y (with_expect (entry_step text true t) (outside_step text t) entry_by f e r h q)

      pub entry_other : (s : Step) → f ≡ Other → s ≡ outside_step text t → s ≡ entry_step text inward t
      entry_other s h q = rw y (with_other (entry_step text true t) (outside_step text t) entry_by f e s h q)

    module _ (takes : Takes) (list_open : Bool) where
      pub block_outside : (s : Step) → inward ≡ false → s ≡ outside_step text t → s ≡ block_step plain_rules text takes list_open inward t
      unfolding block_step argument_line entry_step
      block_outside s n q = q ∙ rw n

      module _ (y : inward ≡ true) (f : Front) (e : f ≡ front_of text t) where
        pub block_skipped : f ≡ Skipped → step Nothing InEntry ≡ block_step plain_rules text takes list_open inward t
        block_skipped h = rw y (with_skipped (block_step plain_rules text takes list_open true t) (argument_step plain_rules text takes list_open t) (block_by takes list_open) f e h)

        pub block_expect : (r : Role) → f ≡ Expect → r ≡ expect_role text t → step r InEntry ≡ block_step plain_rules text takes list_open inward t
        block_expect r h q = rw y (with_expect (block_step plain_rules text takes list_open true t) (argument_step plain_rules text takes list_open t) (block_by takes list_open) f e r h q)

        pub block_other : (s : Step) → f ≡ Other → s ≡ argument_step plain_rules text takes list_open t → s ≡ block_step plain_rules text takes list_open inward t
        block_other s h q = rw y (with_other (block_step plain_rules text takes list_open true t) (argument_step plain_rules text takes list_open t) (block_by takes list_open) f e s h q)

  -- ---- the sorts of lines

  pub sorted_as : (told s : Sort) → s ≡ told → (a : Step) → a ≡ sorted_step text told t → a ≡ sorted_step text s t
  sorted_as told s h a q = rw (h, q)

  pub sorted_expect : (s : Sort) → s ≡ sort.Expect → (r : Role) → r ≡ expect_role text t → step r InEntry ≡ sorted_step text s t
  unfolding sorted_step
  sorted_expect s h r q = rw (h, q)

  module _ (b : Bool) (e : b ≡ skipped text t) where
    pub outside_skipped : b ≡ true → step Nothing Outside ≡ outside_step text t
    unfolding outside_step
    outside_skipped h = rw (← e, h)

    pub outside_opened : b ≡ false → opening_step text t ≡ outside_step text t
    unfolding outside_step opening_step
    outside_opened h = rw (← e, h)

  -- ---- where a line stands is known
  pub stands : (w told : Where) (inward : Bool) (s : Step) → w ≡ told → s ≡ step_at plain_rules text told inward t → s ≡ step_at plain_rules text w inward t
  stands w told inward s h q = rw (h, q)

-- the step of a sort that a call has told
pub told-step : (text : List ℕ) (t : Span) (s : Sort) (whole a : Step) → sorted_step text s t ≡ whole → a ≡ sorted_step text s t → a ≡ whole
told-step text t s whole a e q = q ∙ e

pub step_is : (text : List ℕ) (w : Where) (l : Line) (inward : Bool) (t : Span) (s : Step) → inward ≡ indented (bytes text (span l.start l.end)) → t ≡ trim text (span l.start l.end) → s ≡ step_at plain_rules text w inward t → s ≡ step_of plain_rules text w l
unfolding step_of bytes
step_is text w l inward t s i k q = q ∙ rw (i, k)

-- ---- lines that are nothing

blank_or_sign : (e c n : Bool) → e or (c & not n) ≡ true → e or c ≡ true
blank_or_sign true c n h = refl
blank_or_sign false true n h = refl
blank_or_sign false false n h = h

one_of_three : (e c x : Bool) → e or c ≡ true → e or c or x ≡ true
one_of_three true c x h = refl
one_of_three false true x h = refl
one_of_three false false x h = never (sym h)

module _ (text : List ℕ) where
  -- a piece that begins where it ends has no bytes
  no_bytes : (p : Span) → p.start ≡ p.end → bytes text p ≡ []
  unfolding bytes
  no_bytes p h = let z : p.end - p.start ≡ 0 = omega arith in rw z

  -- a blank line of the preamble
  pub blank_led : (t : Span) (a : Bool) → a ≡ is_empty t → a ≡ true → step Nothing InPreamble ≡ preamble_step text t
  unfolding preamble_step preamble_role is_empty is spells
  blank_led t a z y = let h = eqb-true t.start t.end (sym z ∙ y) in rw (no_bytes t h, eq-eqb _ _ h)

  pub nothing_led : (w : Where) (t : Span) → w ≡ InPreamble → step Nothing InPreamble ≡ preamble_step text t → (inward : Bool) → step Nothing (below_nothing w inward) ≡ step_at plain_rules text w inward t
  unfolding step_at below_nothing
  nothing_led w t h q inward = rw h q

  -- below the preamble
  module _ (t : Span) (h : skipped text t ≡ true) where
    ends_entry : step Nothing Outside ≡ outside_step text t
    unfolding outside_step
    ends_entry = rw h

    is_blank_or_sign : is_empty t or begins text "#" t ≡ true
    unfolding skipped
    is_blank_or_sign = blank_or_sign (is_empty t) (begins text "#" t) (begins text "# nwscript" t) h

    in_entry : (inward : Bool) → step Nothing (if inward then InEntry else Outside) ≡ entry_step text inward t
    unfolding entry_step
    in_entry true = rw is_blank_or_sign
    in_entry false = ends_entry

    in_block : (takes : Takes) (list_open inward : Bool) → entry_step text inward t ≡ block_step plain_rules text takes list_open inward t
    unfolding block_step argument_line
    in_block takes list_open true = rw (one_of_three (is_empty t) (begins text "#" t) (begins text "expect" t) is_blank_or_sign)
    in_block takes list_open false = refl

    pub nothing_below : (w : Where) → (w ≡ InPreamble → ⊥) → (inward : Bool) → step Nothing (below_nothing w inward) ≡ step_at plain_rules text w inward t
    unfolding step_at below_nothing
    nothing_below InPreamble n inward = absurd (n refl)
    nothing_below Outside n inward = ends_entry
    nothing_below (InBlock takes list_open) n inward = in_entry inward ∙ in_block takes list_open inward
    nothing_below InEntry n inward = in_entry inward

  nothing_at : (w : Where) (t : Span) → t.start ≡ t.end → step Nothing (below_nothing w false) ≡ step_at plain_rules text w false t
  unfolding step_at preamble_step preamble_role outside_step skipped entry_step block_step argument_line is_empty is spells below_nothing
  nothing_at InPreamble t h = rw (no_bytes t h, eq-eqb _ _ h)
  nothing_at Outside t h = rw (eq-eqb _ _ h)
  nothing_at (InBlock takes list_open) t h = rw (eq-eqb _ _ h)
  nothing_at InEntry t h = rw (eq-eqb _ _ h)

  trim_nothing : (p : Span) → p.start ≡ p.end → (trim text p).start ≡ (trim text p).end
  unfolding trim
  trim_nothing p h = let z = ap length (no_bytes p h) in omega (arith, trim-inside (bytes text p))

  pub empty_is : (w next : Where) (l : Line) → l.start ≡ l.end → next ≡ below_nothing w false → step Nothing next ≡ step_of plain_rules text w l
  unfolding step_of indented starts_with utf8
  empty_is w next l h e = rw (no_bytes (line_span l) h, e) (nothing_at w (trim text (line_span l)) (trim_nothing (line_span l) h))

  pub nothing_is : (w next : Where) (l : Line) (inward : Bool) (t : Span) → inward ≡ indented (bytes text (span l.start l.end)) → t ≡ trim text (span l.start l.end)
      → ((i : Bool) → step Nothing (below_nothing w i) ≡ step_at plain_rules text w i t) → next ≡ below_nothing w inward → step Nothing next ≡ step_of plain_rules text w l
  nothing_is w next l inward t i k q e = step_is text w l inward t (step Nothing next) i k (rw e (q inward))

pub ruleset front_words = (front_blank, front_comment, front_expect, front_other)

pub ruleset outside_words = (outside_skipped, outside_opened)

pub ruleset entry_words = (entry_outside, entry_skipped, entry_expect, entry_other)

pub ruleset Block_words = (block_outside, block_skipped, block_expect, block_other)
