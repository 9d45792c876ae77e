-- Laws of the walk over lines: what the line at hand does to the totals, to what is open and to the answer. Assumes nothing.
use Rattle.std.specs.Prelude.{Err, Ok, Option, Some}
use Prim.Native.Nat.{ℕ, zero, suc, ◌+◌, ◌-◌, ◌*◌, ◌≤◌, ◌<◌}
use native.Mathlib.Omega.{arith}
use mathlib.Core.Path.{◌≡◌, refl, ap, ◌∙◌}
use mathlib.Core.Bool.{Bool, true, false}
use mathlib.Core.List.{List, [], ◌∷◌}
use lib.Dec.{leb}
use lib.ListN.{length, set}
use borrow.Author.Tests.{leb-true, leb-false}
use Rattle.text.specs.Lines.{line_at, lines}
use Rattle.text.specs.declared.lines.Line.{Line}
use Rattle.text.proofs.LineLaws.{lines_at, known, lines_none, lines_few}
use Rattle.script.specs.Inside.{In, SayingIn, RoleIn}
use Rattle.script.specs.Values.{plain_rules}
use Rattle.script.specs.Roles.{line_span, step_of}
use Rattle.script.specs.Refusals.{refusal}
use Rattle.script.specs.declared.records.Counts.{Counts}
use Rattle.script.specs.declared.roles.Refused.{Refused}
use Rattle.script.specs.declared.roles.Where.{Where}
use Rattle.script.specs.declared.roles.Where.TheVariants.{InPreamble}
use Rattle.script.specs.declared.records.Expect.{Expect}
use Rattle.script.specs.declared.roles.Saying.{Saying}
use Rattle.script.specs.declared.roles.Opening.{Opening}
use Rattle.script.specs.declared.roles.Step.{Step}
use Rattle.script.specs.declared.roles.Role.TheVariants.{Nothing, Says, Expects, Opens, Bad}
use Rattle.script.proofs.RolesInside.{role_in}
use Rattle.kept.specs.Kept.{kept_of, Memo}
use Rattle.kept.specs.declared.Kept.{Kept}
use Rattle.kept.proofs.KeptLaws.{keep_memo, found_step, found_next}
use Rattle.measuring.specs.declared.What.TheVariants.{ThePreamble}
use Rattle.measuring.specs.declared.Open.{Open}
use Rattle.totals.specs.Bounds.{Small, Few}
use Rattle.measuring.specs.Measure.{begun, preamble_open, zeros, onward, counts, close_on, entered, count_on, opened, say_on, open_on, walk_from}
use Rattle.totals.proofs.BoundLaws.{begun-small, grown, said-small, opened-small, more_few, entered_few}
use Rattle.script.specs.Reading.{Parsed}

-- each line is the line that begins where it says, called by its number
abbrev pub AllHere : List ℕ → List Line → Type 0
AllHere text [] = Unit {0}
AllHere text (l ∷ ls) = (l.start < length text) × (l ≡ line_at text l.start l.number) × AllHere text ls

one_here : (text : List ℕ) (at number : ℕ) → ((next n : ℕ) → at < next → next ≤ length text → AllHere text (lines_at text next n)) → AllHere text (lines_at text at number)
one_here text at number ih = go (leb (length text) at) refl
  where
    go : (b : Bool) → leb (length text) at ≡ b → AllHere text (lines_at text at number)
    go true e = rw (lines_none text at number (leb-true (length text) at e)) tt
    go false e =
        let h = leb-false (length text) at e in
        let k = known text at number _ h refl in
        let b = k.begins in
        let c = k.called in
        rw k.more (omega arith, cc, ih _ (number + 1) k.later k.within)

here_from : (text : List ℕ) (n at number : ℕ) → length text ≤ at + n → AllHere text (lines_at text at number)
here_from text zero at number h = one_here text at number (λ next m l k. absurd (omega arith))
here_from text (suc n) at number h = one_here text at number (λ next m l k. here_from text n next m (omega arith))

lines_here : (text : List ℕ) → AllHere text (lines text)
unfolding lines
lines_here text = here_from text (length text) 0 1 (omega arith)

-- ---- what holds before a line, by the lines left

-- how small the numbers are: the fewer lines are left, the more they may be
abbrev pub small_at : List Line → ℕ
small_at ls = 0x8000 + (0x8000 - length ls) * 2

abbrev pub few_at : List Line → ℕ
few_at ls = (0x8000 - length ls) * 0x80000

-- numbers are small, the lines left are lines of the text, and the walk over them gives the answer
pub record Turn (text : List ℕ) (t : Counts) (o : Open) (w : Where) (ls : List Line) (whole : Parsed Counts) : Type 0 where
  pub short : length ls ≤ 0x8000
  pub here : AllHere text ls
  pub small : Small (small_at ls) o
  pub few : Few (few_at ls) t
  pub walk : walk_from text t o w ls ≡ whole

pub turn_first : (text : List ℕ) (o : Open) (ls : List Line) → length text ≤ 0x8000 → o ≡ begun ThePreamble 0 → ls ≡ lines text
    → Turn text (counts 0 0 0 0) o InPreamble ls (walk_from text zeros preamble_open InPreamble (lines text))
unfolding zeros preamble_open
turn_first text o ls h b e = rw (b, e) (record {
  short = omega (arith, lines_few text);
  here = lines_here text;
  small = begun-small (small_at (lines text)) ThePreamble 0 (omega arith);
  few = record { entries = omega arith; items = omega arith; expectations = omega arith; store = omega arith };
  walk = refl;
})

module _ (text : List ℕ) (t : Counts) (o : Open) (w : Where) (ls : List Line) (whole : Parsed Counts) (turn : Turn text t o w ls whole) where
  pub walk_over : ls ≡ [] → (r : Counts) → r ≡ close_on t o → Ok r ≡ whole
  unfolding walk_from
  walk_over h r e = ap (λ (c : Counts). Ok c) e ∙ (rw h at turn.walk)

  -- ---- the line at hand
  module _ (l : Line) (rest : List Line) (e : ls ≡ l ∷ rest) where
    here : AllHere text (l ∷ rest)
    here = rw e at turn.here

    pub line_in : In text (line_span l)
    line_in = let k = known text l.start l.number l here.0 here.1 in record { forward = k.forward; inside = k.inside }

    module _ (s : Step) (f : s ≡ step_of plain_rules text w l) where
      line-role : RoleIn text s.role
      line-role = rw f (role_in text plain_rules w l line_in)

      pub says_in : (x : Saying) → s.role ≡ Says x → SayingIn text x
      unfolding RoleIn
      says_in x r = rw r at line-role

      pub args_in : (p : Opening) → s.role ≡ Opens p → In text p.args
      unfolding RoleIn
      args_in p r = rw r at line-role

      -- what is kept is right when the line at hand is kept too
      pub kept_on : (kept : List (Option Kept)) → Memo text kept → (kept' : List (Option Kept)) → kept' ≡ set kept l.number (Some (kept_of l.start w l.next s)) → Memo text kept'
      kept_on kept m kept' q =
          rw q (keep_memo text kept l.number l.start w l.next s (found_step text l.start l.number here.0 l here.1 w s f) (found_next text l.start l.number here.0 l here.1) m)

      -- the walk from here goes by the line's role
      by_role : onward l.number s.role (walk_from text (count_on t o s.role) (open_on text o s.role) s.next rest) ≡ whole
      unfolding walk_from
      by_role = rw f (rw e at turn.walk)

      pub walk_bad : (n : Refused) → s.role ≡ Bad n → Err (refusal n.reason l.number) ≡ whole
      unfolding onward
      walk_bad n b = rw b at by_role

      -- ---- the next line
      abbrev Next : Counts → Open → Type 0
      Next t' o' = Turn text t' o' s.next rest whole

      shorter : length rest + 1 ≤ 0x8000
      shorter = omega (arith, turn.short, ap length e)

      still : Small (small_at rest) o
      still = grown (small_at ls) (small_at rest) o (omega (arith, ap length e)) turn.small

      still_few : Few (few_at rest) t
      still_few = more_few (few_at ls) (few_at rest) t (omega (arith, ap length e)) turn.few

      pub turn_nothing : (t' : Counts) (o' : Open) → s.role ≡ Nothing → t' ≡ t → o' ≡ o → Next t' o'
      unfolding onward count_on open_on
      turn_nothing t' o' r a b = rw (a, b) (record { short = omega (arith, shorter); here = here.2; small = still; few = still_few; walk = rw r at by_role })

      pub turn_says : (x : Saying) (t' : Counts) (o' : Open) → length text ≤ 0x8000 → s.role ≡ Says x → t' ≡ t → o' ≡ say_on text o x → Next t' o'
      unfolding onward count_on open_on
      turn_says x t' o' fits r a b = rw (a, b) (record {
        short = omega (arith, shorter);
        here = here.2;
        small = grown (small_at ls + 2) (small_at rest) (say_on text o x) (omega (arith, shorter, ap length e)) (said-small text (small_at ls) (omega arith) o x (says_in x r) turn.small);
        few = still_few;
        walk = rw r at by_role;
      })

      pub turn_expects : (x : Expect) (t' : Counts) (o' : Open) → s.role ≡ Expects x → t' ≡ counts t.entries t.items (t.expectations + 1) t.store → o' ≡ o → Next t' o'
      unfolding onward count_on open_on
      turn_expects x t' o' r a b = rw (a, b) (record {
        short = omega (arith, shorter);
        here = here.2;
        small = still;
        few = record {
          entries = still_few.entries;
          items = still_few.items;
          expectations = omega (arith, shorter, ap length e, turn.few.expectations);
          store = still_few.store;
        };
        walk = rw r at by_role;
      })

      pub turn_opens : (p : Opening) (t' : Counts) (o' : Open) → length text ≤ 0x8000 → s.role ≡ Opens p → t' ≡ entered t o → o' ≡ opened text p.op p.args → Next t' o'
      unfolding onward count_on open_on
      turn_opens p t' o' fits r a b = rw (a, b) (record {
        short = omega (arith, shorter);
        here = here.2;
        small = opened-small text (small_at rest) (omega arith) p.op p.args (args_in p r);
        few = more_few _ (few_at rest) (entered t o) (omega (arith, shorter, ap length e)) (entered_few (few_at ls) (small_at ls) t o turn.few turn.small);
        walk = rw r at by_role;
      })
