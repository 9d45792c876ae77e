-- What the lines from a place of the text on hand on lies inside the text. Assumes nothing.
use Prim.Native.Nat.{ℕ, ◌≤◌}
use mathlib.Core.Path.{◌≡◌, sym, ap, ◌∙◌}
use mathlib.Core.Bool.{Bool, true, false}
use mathlib.Core.List.{List, [], ◌∷◌, ◌++◌}
use native.Mathlib.Omega.{arith}
use lib.ListN.{length, drop, length-drop}
use Rattle.std.specs.Prelude.{if◌then◌else◌, None, Option, Some}
use Rattle.text.specs.Lines.{lines_from}
use Rattle.text.specs.declared.parts.Span.{Span}
use Rattle.text.specs.declared.lines.Line.{Line}
use Rattle.script.specs.Operations.{same_key}
use Rattle.script.specs.Values.{plain_rules}
use Rattle.script.specs.Roles.{Marked, step_of, roles_from}
use Rattle.script.specs.Contents.{saying_of, sayings, value_or, last_of, is_opening, lead}
use Rattle.script.specs.Inside.{In, SayingIn, RoleIn}
use Rattle.script.specs.declared.roles.Key.{Key}
use Rattle.script.specs.declared.roles.Where.{Where}
use Rattle.script.specs.declared.roles.Saying.{Saying}
use Rattle.script.specs.declared.roles.Saying.TheVariants.{Known, Pair, NoColon, Unknown, NoPair, NoRaw}
use Rattle.script.specs.declared.roles.Role.{Role}
use Rattle.script.specs.declared.roles.Role.TheVariants.{Nothing, Says, Expects, Opens, Bad}
use Rattle.script.proofs.Inside.{LinesIn, lines_in}
use Rattle.script.proofs.RolesInside.{role_in}
use Rattle.said.specs.Said.{said_of, SaidIn}
use Rattle.said.specs.declared.said.Heard.{Heard}
use Rattle.below.specs.Below.{roles_at}

module _ (text : List ℕ) where
  abbrev RolesIn : List Marked → Type 0
  RolesIn [] = Unit {0}
  RolesIn (m ∷ ms) = RoleIn text m.role × RolesIn ms

  abbrev SayingsIn : List Saying → Type 0
  SayingsIn [] = Unit {0}
  SayingsIn (s ∷ ss) = SayingIn text s × SayingsIn ss

  -- a value that was said lies in the text
  abbrev ValueIn : Option Span → Type 0
  ValueIn None = Unit {0}
  ValueIn (Some v) = In text v

  roles_in : (w : Where) (ls : List Line) → LinesIn text ls → RolesIn (roles_from plain_rules text w ls)
  unfolding roles_from
  roles_in w [] i = tt
  roles_in w (l ∷ ls) i = (role_in text plain_rules w l i.0, roles_in (step_of plain_rules text w l).next ls i.1)

  at_in : (w : Where) (at number : ℕ) → at ≤ length text → RolesIn (roles_at text w at number)
  unfolding roles_at
  at_in w at number h = roles_in w (lines_from number at at at (drop at text)) (lines_in text number at at at (drop at text) (omega arith) (omega arith) (omega arith) (omega (arith, length-drop at text)))

  lead_in : (ms : List Marked) → RolesIn ms → RolesIn (lead ms)
  unfolding lead
  lead_in [] i = tt
  lead_in (m ∷ ms) i = go (is_opening m.role) (lead_in ms i.1)
    where
      go : (b : Bool) → RolesIn (lead ms) → RolesIn (if b then [] else (m ∷ lead ms))
      go true j = tt
      go false j = (i.0, j)

  -- what the lines say
  sayings_in : (ms : List Marked) → RolesIn ms → SayingsIn (sayings ms)
  unfolding sayings saying_of RoleIn
  sayings_in [] i = tt
  sayings_in (m ∷ ms) i = go m.role i.0 (sayings_in ms i.1)
    where
      go : (r : Role) → RoleIn text r → SayingsIn (sayings ms) → SayingsIn (saying_of r ++ sayings ms)
      go Nothing j rest = rest
      go (Says s) j rest = (j, rest)
      go (Expects e) j rest = rest
      go (Opens o) j rest = rest
      go (Bad n) j rest = rest

  -- and so the last value of each key
  value_in : (k : Key) (s : Saying) (v : Option Span) → SayingIn text s → ValueIn v → ValueIn (value_or k s v)
  unfolding SayingIn value_or
  value_in k (Known k' p) v i j = go (same_key k k')
    where
      go : (b : Bool) → ValueIn (if b then Some p else v)
      go true = i
      go false = j
  value_in k (Pair a b) v i j = j
  value_in k NoColon v i j = j
  value_in k (Unknown a b) v i j = j
  value_in k NoPair v i j = j
  value_in k NoRaw v i j = j

  last_in : (k : Key) (v : Option Span) (ss : List Saying) → ValueIn v → SayingsIn ss → ValueIn (last_of k v ss)
  unfolding last_of
  last_in k v [] j i = j
  last_in k v (s ∷ ss) j i = last_in k (value_or k s v) ss (value_in k s v i.0 j) i.1

  module _ (w : Where) (at number : ℕ) (h : at ≤ length text) where
    -- the values that the lines up to the next opening line leave, where there was none before them
    pub values_in : (heard : Heard) → ((k : Key) → said_of heard k ≡ last_of k None (sayings (lead (roles_at text w at number)))) → SaidIn text heard
    values_in heard l k v e =
        rw (sym (l k) ∙ e) at (last_in k None (sayings (lead (roles_at text w at number))) tt (sayings_in (lead (roles_at text w at number)) (lead_in (roles_at text w at number) (at_in w at number h))))

-- some lines leave the last value of each key, where nothing was said before them
pub left_by : (g h : Heard) (ss : List Saying) → ((k : Key) → said_of g k ≡ None) → ((k : Key) → said_of h k ≡ last_of k (said_of g k) ss)
    → (k : Key) → said_of h k ≡ last_of k None ss
left_by g h ss z v k = v k ∙ ap (λ (o : Option Span). last_of k o ss) (z k)
