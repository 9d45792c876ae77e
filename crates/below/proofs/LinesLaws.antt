-- Laws of the loop over the lines up to the next opening line. Assumes nothing.
use Rattle.std.specs.Prelude.{Option}
use Prim.Native.Nat.{ℕ, ◌+◌, ◌≤◌, ◌<◌}
use mathlib.Core.Path.{◌≡◌, refl, sym, ap, ◌∙◌}
use mathlib.Core.Logic.{◌⊎◌, inl, inr}
use mathlib.Core.Bool.{Bool, true, false}
use mathlib.Core.List.{List, [], ◌∷◌, ◌++◌, map, map-append}
use lib.ListN.{length}
use Rattle.text.specs.declared.parts.Span.{Span}
use Rattle.text.specs.Lines.{line_at}
use Rattle.text.proofs.LineLaws.{known, lines_none}
use Rattle.script.specs.Pieces.{place}
use Rattle.script.specs.Values.{plain_rules}
use Rattle.script.specs.Roles.{Marked, marked, step_of, roles_from}
use Rattle.script.specs.Contents.{saying_of, sayings, expectation_of, expectations, value_or, last_of, pair_of, pairs, is_opening, lead}
use Rattle.script.specs.Inside.{In, SayingIn, RoleIn}
use Rattle.script.specs.declared.records.Expect.{Expect}
use Rattle.script.specs.declared.records.Expectation.{Expectation}
use Rattle.script.specs.declared.roles.Key.{Key}
use Rattle.script.specs.declared.roles.Where.{Where}
use Rattle.script.specs.declared.roles.Saying.{Saying}
use Rattle.script.specs.declared.roles.Saying.TheVariants.{Known, Pair, NoColon, Unknown, NoPair, NoRaw}
use Rattle.script.specs.declared.roles.Opening.{Opening}
use Rattle.script.specs.declared.roles.Step.{Step}
use Rattle.script.specs.declared.roles.Refused.{Refused}
use Rattle.script.specs.declared.roles.Role.{Role}
use Rattle.script.specs.declared.roles.Role.TheVariants.{Nothing, Says, Expects, Opens, Bad}
use Rattle.script.proofs.RolesInside.{role_in}
use Rattle.said.specs.Said.{said_of}
use Rattle.said.specs.declared.said.Heard.{Heard}
use Rattle.written.specs.declared.Writer.{Writer}
use Rattle.written.specs.Writing.{Room, wrote}
use Rattle.tables.specs.Items.{item_of, items_for}
use Rattle.below.proofs.LeftLaws.{Left, left_begun, left_over, left_room, left_on}
use Rattle.below.specs.Below.{roles_at, ahead, pairs_items}
use Rattle.says.specs.Says.{pair_items, Forward}

-- ---- one line, and those below it

pub forward_in : (text : List ℕ) (s : Saying) → SayingIn text s → Forward s
unfolding SayingIn Forward
forward_in text (Known k v) i = i.forward
forward_in text (Pair a b) i = (i.0.forward, i.1.forward)
forward_in text NoColon i = tt
forward_in text (Unknown a b) i = tt
forward_in text NoPair i = tt
forward_in text NoRaw i = tt

-- what the line at hand is, and where the next one begins
pub record Line (text : List ℕ) (w : Where) (at number : ℕ) (s : Step) (n : ℕ) : Type 0 where
  -- the line at hand, and those below it
  pub more : roles_at text w at number ≡ marked number s.role ∷ roles_at text s.next n (number + 1)
  -- the next line begins further on in the text
  pub later : at < n
  pub within : n ≤ length text
  pub forward : (x : Saying) → s.role ≡ Says x → Forward x
  pub args : (p : Opening) → s.role ≡ Opens p → In text p.args

module _ (text : List ℕ) (w : Where) (at number : ℕ) where
  -- at the end of the text there is no line
  pub roles-none : length text ≤ at → roles_at text w at number ≡ []
  unfolding roles_at roles_from
  roles-none h = rw (lines_none text at number h)

  -- s is what the line is, and n where the next one begins
  pub line_known : at < length text → (s : Step) (n : ℕ) → s ≡ step_of plain_rules text w (line_at text at number) → n ≡ (line_at text at number).next → Line text w at number s n
  unfolding roles_at roles_from RoleIn
  line_known h s n f g =
      let k = known text at number (line_at text at number) h refl in
      let role : RoleIn text s.role = rw f (role_in text plain_rules w (line_at text at number) (record { forward = k.forward; inside = k.inside })) in
      record {
        more = rw (k.more, ← f, g) (ap (λ (m : ℕ). marked m s.role ∷ roles_at text s.next (line_at text at number).next (number + 1)) k.called);
        later = rw g k.later;
        within = rw g k.within;
        forward = λ x r. forward_in text x (rw r at role);
        args = λ p r. rw r at role;
      }

-- what a line that says s adds to the pairs
pub pairs_more : (options : Bool) (s : Saying) (ss : List Saying) → pairs_items options (s ∷ ss) ≡ pair_items options s ++ pairs_items options ss
unfolding pairs_items pair_items pairs items_for
pairs_more false s ss = refl
pairs_more true s ss = ap (map item_of) (map-append place (pair_of s) (pairs ss)) ∙ map-append item_of (map place (pair_of s)) (map place (pairs ss))

-- ---- the loop

-- What holds at a line. `all` are the lines from the first on, `left` those that are still to come: what is left to write and to say of them is what all of
-- them leave.
pub record Led (options : Bool) (heard₀ : Heard) (items₀ : Writer (List ℕ)) (expects₀ : Writer Expectation) (all : List Marked) (heard : Heard)
    (items : Writer (List ℕ)) (expects : Writer Expectation) (left : List Marked) : Type 0 where
  pub pairs_left : Left (pairs_items options (sayings (lead all))) items₀ (pairs_items options (sayings (lead left))) items
  pub expects_left : Left (expectations (lead all)) expects₀ (expectations (lead left)) expects
  pub values : (k : Key) → last_of k (said_of heard k) (sayings (lead left)) ≡ last_of k (said_of heard₀ k) (sayings (lead all))
  pub onward : ahead left ≡ ahead all

module _ {options : Bool} {heard₀ : Heard} {items₀ : Writer (List ℕ)} {expects₀ : Writer Expectation} {all : List Marked} where
  pub led_first : Room (length (pairs_items options (sayings (lead all)))) items₀ → Room (length (expectations (lead all))) expects₀ → Led options heard₀ items₀ expects₀ all heard₀ items₀ expects₀ all
  led_first a b = record { pairs_left = left_begun _ items₀ a; expects_left = left_begun _ expects₀ b; values = λ k. refl; onward = refl }

  module _ {heard : Heard} {items : Writer (List ℕ)} {expects : Writer Expectation} {left : List Marked} (led : Led options heard₀ items₀ expects₀ all heard items expects left) where
    abbrev Next : (heard : Heard) (items : Writer (List ℕ)) (expects : Writer Expectation) (left : List Marked) → Type 0
    Next = Led options heard₀ items₀ expects₀ all

    module _ {n : ℕ} {r : Role} {later : List Marked} (e : left ≡ marked n r ∷ later) where
      silent : sayings (lead left) ≡ sayings (lead later) → expectations (lead left) ≡ expectations (lead later) → ahead left ≡ ahead later → Next heard items expects later
      silent a b o = record {
        pairs_left = rw a at led.pairs_left;
        expects_left = rw b at led.expects_left;
        values = rw a at led.values;
        onward = sym o ∙ led.onward;
      }

      -- a line that says nothing, or is refused
      pub led_silent : (r ≡ Nothing) ⊎ ((k : Refused) × r ≡ Bad k) → Next heard items expects later
      unfolding lead is_opening sayings saying_of expectations expectation_of ahead
      led_silent (inl q) = silent (rw (e, q)) (rw (e, q)) (rw (e, q))
      led_silent (inr q) = silent (rw (e, q.1)) (rw (e, q.1)) (rw (e, q.1))

      -- a line that says something
      module _ (s : Saying) (q : r ≡ Says s) where
        says_more : sayings (lead left) ≡ s ∷ sayings (lead later)
        unfolding lead is_opening sayings saying_of
        says_more = rw (e, q)

        pairs_more_left : pairs_items options (sayings (lead left)) ≡ pair_items options s ++ pairs_items options (sayings (lead later))
        pairs_more_left = ap (pairs_items options) says_more ∙ pairs_more options s (sayings (lead later))

        pub says_room : Room (length (pair_items options s)) items
        says_room = left_room led.pairs_left (pair_items options s) _ pairs_more_left

        pub led_says : (heard' : Heard) (items' : Writer (List ℕ)) → items' ≡ wrote (pair_items options s) items → ((k : Key) → said_of heard' k ≡ value_or k s (said_of heard k)) → Next heard' items' expects later
        unfolding lead is_opening expectations expectation_of ahead last_of
        led_says heard' items' a d = record {
          pairs_left = left_on led.pairs_left (pair_items options s) _ pairs_more_left items' a;
          expects_left = rw (e, q) at led.expects_left;
          values = λ k. ap (λ (v : Option Span). last_of k v (sayings (lead later))) (d k) ∙ ap (last_of k (said_of heard k)) (sym says_more) ∙ led.values k;
          onward = (rw (e, q) at led.onward);
        }

      -- an expectation
      module _ (p : Expect) (q : r ≡ Expects p) where
        abbrev here : List Expectation
        here = record { line = n; expect = p } ∷ []

        expects_more_left : expectations (lead left) ≡ here ++ expectations (lead later)
        unfolding lead is_opening expectations expectation_of
        expects_more_left = rw (e, q)

        pub expects_room : Room 1 expects
        expects_room = left_room led.expects_left here _ expects_more_left

        pub led_expects : (expects' : Writer Expectation) → expects' ≡ wrote here expects → Next heard items expects' later
        unfolding lead is_opening sayings saying_of ahead
        led_expects expects' a = record {
          pairs_left = rw (e, q) at led.pairs_left;
          expects_left = left_on led.expects_left here _ expects_more_left expects' a;
          values = rw (e, q) at led.values;
          onward = rw (e, q) at led.onward;
        }

    -- no line is left before the next opening line
    module _ (o : lead left ≡ []) where
      no_pairs : pairs_items options (sayings (lead left)) ≡ []
      unfolding sayings pairs_items pairs items_for
      no_pairs = rw o (go options)
        where
          go : (b : Bool) → pairs_items b [] ≡ []
          go true = refl
          go false = refl

      no_expects : expectations (lead left) ≡ []
      unfolding expectations
      no_expects = rw o

      pub done_items : items ≡ wrote (pairs_items options (sayings (lead all))) items₀
      done_items = left_over led.pairs_left no_pairs

      pub done_expects : expects ≡ wrote (expectations (lead all)) expects₀
      done_expects = left_over led.expects_left no_expects

      pub done_values : (k : Key) → said_of heard k ≡ last_of k (said_of heard₀ k) (sayings (lead all))
      unfolding sayings last_of
      done_values k = rw o at (led.values k)

-- ---- where the loop ends

-- at an opening line no line is left, and what comes next is that line
module _ (left : List Marked) (n : ℕ) (p : Opening) (later : List Marked) (e : left ≡ marked n (Opens p) ∷ later) where
  pub opens-lead : lead left ≡ []
  unfolding lead is_opening
  opens-lead = rw e

  pub opens-ahead : ahead left ≡ marked n (Opens p) ∷ later
  unfolding ahead is_opening
  opens-ahead = rw e

module _ (left : List Marked) (e : left ≡ []) where
  pub over_lead : lead left ≡ []
  unfolding lead
  over_lead = rw e

  pub over_ahead : ahead left ≡ []
  unfolding ahead
  over_ahead = rw e
