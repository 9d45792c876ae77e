-- What lies inside the text: pieces, as every piece that the code holds does, those that a line hands on, and every part of an expectation, which judging
-- asks (31). Assumes nothing.
use Rattle.std.specs.Prelude.{ℕ, ◌+◌, ◌≤◌, List, [], ◌∷◌, length}
use Rattle.text.specs.declared.parts.Span.{Span}
use Rattle.script.specs.declared.records.Place.{Place}
use Rattle.script.specs.declared.records.Matcher.{Matcher}
use Rattle.script.specs.declared.records.Matcher.TheVariants.{Exact, Regex, GreaterThan, LessThan, GreaterOrEqual, LessOrEqual}
use Rattle.script.specs.declared.records.Expect.{Expect}
use Rattle.script.specs.declared.records.Expect.TheVariants.{Terminal, Result, ResultField, Error, StderrCount, Daemon, Trust, ServerFeatures}
use Rattle.script.specs.declared.records.Expectation.{Expectation}
use Rattle.script.specs.declared.roles.Saying.{Saying}
use Rattle.script.specs.declared.roles.Saying.TheVariants.{Known, Pair, NoColon, Unknown, NoPair, NoRaw}
use Rattle.script.specs.declared.roles.Role.{Role}
use Rattle.script.specs.declared.roles.Role.TheVariants.{Nothing, Says, Expects, Opens, Bad}

-- a piece of the text
pub record In (text : List ℕ) (p : Span) : Type 0 where
  pub forward : p.start ≤ p.end
  pub inside : p.end ≤ length text

-- the pieces that a line hands on
unfoldable pub SayingIn : (text : List ℕ) → Saying → Type 0
SayingIn text (Known k v) = In text v
SayingIn text (Pair a b) = In text a × In text b
SayingIn text NoColon = Unit {0}
SayingIn text (Unknown k v) = In text k × In text v
SayingIn text NoPair = Unit {0}
SayingIn text NoRaw = Unit {0}

unfoldable pub RoleIn : (text : List ℕ) → Role → Type 0
RoleIn text Nothing = Unit {0}
RoleIn text (Says s) = SayingIn text s
RoleIn text (Expects e) = Unit {0}
RoleIn text (Opens o) = In text o.args
RoleIn text (Bad n) = Unit {0}

-- a place inside n bytes
abbrev pub PlaceIn : ℕ → Place → Type 0
PlaceIn n p = p.start + p.len ≤ n

abbrev pub MatcherIn : ℕ → Matcher → Type 0
MatcherIn n (Exact p) = PlaceIn n p
MatcherIn n (Regex p) = PlaceIn n p
MatcherIn n (GreaterThan k) = Unit {0}
MatcherIn n (LessThan k) = Unit {0}
MatcherIn n (GreaterOrEqual k) = Unit {0}
MatcherIn n (LessOrEqual k) = Unit {0}

abbrev pub ExpectIn : ℕ → Expect → Type 0
ExpectIn n (Terminal p) = PlaceIn n p
ExpectIn n (Result m) = MatcherIn n m
ExpectIn n (ResultField p m) = PlaceIn n p × MatcherIn n m
ExpectIn n (Error m) = MatcherIn n m
ExpectIn n (StderrCount m) = MatcherIn n m
ExpectIn n (Daemon m) = MatcherIn n m
ExpectIn n (Trust m) = MatcherIn n m
ExpectIn n (ServerFeatures m) = MatcherIn n m

abbrev pub AllIn : ℕ → List Expectation → Type 0
AllIn n [] = Unit {0}
AllIn n (e ∷ es) = ExpectIn n e.expect × AllIn n es
