-- Laws of argument lines for the proofs of code: what a line says, from the signs that were found in it. For `search` to use. Assumes nothing.
use Rattle.std.specs.Prelude.{None, Option, Some}
use Prim.Native.Nat.{ℕ, ◌+◌}
use mathlib.Core.Path.{◌≡◌, refl, sym, ◌∙◌}
use mathlib.Core.Bool.{Bool, true, false}
use mathlib.Core.List.{List, [], ◌∷◌}
use types.Run.{OneOf, miss}
use denote.Enum.Declared.{tag_of}
use Rattle.text.specs.Base.{◌&◌, QUOTE}
use Rattle.text.specs.Parts.{span, starts_with}
use Rattle.text.specs.declared.parts.Span.{Span}
use Rattle.text.proofs.LiteralLaws.{codes}
use Rattle.text.proofs.Scan.{never}
use Rattle.script.specs.Answers.{◌>>=◌}
use Rattle.script.specs.Pieces.{Cut, bytes, begins, behind, trim, cut, cut_into}
use Rattle.script.specs.Operations.{keys_of, key_in}
use Rattle.script.specs.Expectations.{COLON}
use Rattle.script.specs.Roles.{pair_in, keyed, key_saying, raw_saying, option_saying, saying_in}
use Rattle.script.specs.declared.roles.Key.{Key}
use Rattle.script.specs.declared.roles.Key.TheVariants.{Raw}
use Rattle.script.specs.declared.roles.Takes.{Takes}
use Rattle.script.specs.declared.roles.Takes.TheVariants.{NoLines, Options, Garbage, Verify, Texts, Store, Multiple, FirstData, FirstRaw}
use Rattle.script.specs.contracts.roles.Takes.{the_type}
use Rattle.script.specs.declared.roles.Saying.{Saying}
use Rattle.script.specs.declared.roles.Saying.TheVariants.{Known, Pair, NoColon, Unknown, NoPair, NoRaw}
use Rattle.arguments.specs.ArgumentRead.{pair_saying, quoted, listed}
use Rattle.pieces.proofs.BehindLaws.{begins-is, behind-some, behind-none}

-- the numbers of those operations whose lines have keys
abbrev pub with_keys : List ℕ
with_keys = 1 ∷ 2 ∷ 3 ∷ 4 ∷ 5 ∷ 6 ∷ 7 ∷ []

module _ (text : List ℕ) where
  -- ---- `raw x"`

  module _ (t : Span) (r : Bool) (e : r ≡ starts_with (codes "raw x\"") (bytes text t)) where
    pub raw_found : r ≡ true → Known Raw (span (t.start + 6) t.end) ≡ raw_saying text t
    unfolding raw_saying
    raw_found y = rw (behind-some text t "raw x\"" r e y, raw_saying)

    pub raw-missing : r ≡ false → NoRaw ≡ raw_saying text t
    unfolding raw_saying
    raw-missing n = rw (behind-none text t "raw x\"" r e n, raw_saying)

  -- ---- key, colon, value

  module _ (keys : List Key) (before after key : Span) (k : key ≡ trim text before) (f : Option Key) (e : f ≡ key_in keys (bytes text key)) where
    pub keyed_known : (value : Span) (w : Key) → value ≡ trim text after → f ≡ Some w → Known w value ≡ keyed text keys (cut_into before after)
    unfolding keyed
    keyed_known value w v h = rw (v, ← k, ← e, h, keyed)

    pub keyed_unknown : (value : Span) → value ≡ trim text after → f ≡ None → Unknown key value ≡ keyed text keys (cut_into before after)
    unfolding keyed
    keyed_unknown value v h =
        let d : f ≡ key_in keys (bytes text (trim text before)) = rw k at e in
        rw (k, v, ← d, h, keyed)

  module _ (keys : List Key) (t : Span) where
    pub colon_found : (c : Cut) (s : Saying) → Some c ≡ cut text COLON t → s ≡ keyed text keys c → s ≡ key_saying text keys t
    unfolding key_saying
    colon_found c s e q = q ∙ rw (← e, key_saying)

    pub colon_missing : None ≡ cut text COLON t → NoColon ≡ key_saying text keys t
    unfolding key_saying
    colon_missing e = rw (← e, key_saying)

  -- ---- what stands in quotes: r is the answer of `Piece::starts_with`

  module _ (t : Span) (r : Bool) (e : r ≡ starts_with (codes "\"") (bytes text t)) where
    pub no_quote : r ≡ false → None ≡ quoted text t
    unfolding quoted
    no_quote n = rw (behind-none text t "\"" r e n)

    pub in_quotes : r ≡ true → (o : Option Cut) → o ≡ cut text QUOTE (span (t.start + 1) t.end) → o ≡ quoted text t
    unfolding quoted
    in_quotes y o q = q ∙ rw (behind-some text t "\"" r e y)

  -- ---- pairs: r is what was found in quotes

  -- a step whose answer is known
  known : {A B C : Type 0} (o : Option A) (f : A → Option B) (g : B → Option C) (r : Option B) → r ≡ (o >>= f) → (o >>= λ x. f x >>= g) ≡ (r >>= g)
  known None f g r e = rw e
  known (Some x) f g r e = rw e

  abbrev with_value : (name c : Span) → Option Saying
  with_value name c = do
    quote ← behind text "\"" c
    value ← cut text QUOTE quote
    Some (Pair name value.before)

  abbrev with_name : Cut → Option Saying
  with_name name = do
    b ← behind text "=" (trim text name.after)
    with_value name.before (trim text b)

  name-known : (t : Span) (r : Option Cut) → r ≡ quoted text t → pair_in text t ≡ (r >>= with_name)
  unfolding pair_in quoted
  name-known t r e = known (behind text "\"" t) (cut text QUOTE) with_name r e

  value-known : (name c : Span) (r : Option Cut) → r ≡ quoted text c → with_value name c ≡ (r >>= λ v. Some (Pair name v.before))
  unfolding quoted
  value-known name c r e = known (behind text "\"" c) (cut text QUOTE) (λ v. Some (Pair name v.before)) r e

  module _ (t : Span) where
    pub no_name : None ≡ quoted text t → NoPair ≡ pair_saying (pair_in text t)
    unfolding pair_saying
    no_name e = rw (name-known t None e)

    module _ (name after : Span) (e : Some (cut_into name after) ≡ quoted text t) (b : Span) (k : b ≡ trim text after)
        (r : Bool) (q : r ≡ starts_with (codes "=") (bytes text b)) where
      pub no_equals : r ≡ false → NoPair ≡ pair_saying (pair_in text t)
      unfolding pair_saying
      no_equals n = rw (name-known t (Some (cut_into name after)) e, ← k, behind-none text b "=" r q n)

      module _ (y : r ≡ true) (c : Span) (j : c ≡ trim text (span (b.start + 1) b.end)) where
        pub no_value : None ≡ quoted text c → NoPair ≡ pair_saying (pair_in text t)
        unfolding pair_saying
        no_value v = rw (name-known t (Some (cut_into name after)) e, ← k, behind-some text b "=" r q y, ← j, value-known name c None v)

        pub pair_found : (value rest : Span) → Some (cut_into value rest) ≡ quoted text c → Pair name value ≡ pair_saying (pair_in text t)
        unfolding pair_saying
        pair_found value rest v = rw (name-known t (Some (cut_into name after)) e, ← k, behind-some text b "=" r q y, ← j, value-known name c (Some (cut_into value rest)) v)

  -- ---- a line of an override list, and any other

  module _ (takes : Takes) (list_open : Bool) (t : Span) where
    pub not_open : list_open ≡ false → false ≡ listed text takes list_open t
    unfolding listed
    not_open n = go takes
      where
        go : (k : Takes) → false ≡ listed text k list_open t
        go NoLines = refl
        go Options = rw n
        go Garbage = refl
        go Verify = refl
        go Texts = refl
        go Store = refl
        go Multiple = refl
        go FirstData = refl
        go FirstRaw = refl

    pub by_quote : takes ≡ Options → list_open ≡ true → (r : Bool) → r ≡ starts_with (codes "\"") (bytes text t) → r ≡ listed text takes list_open t
    unfolding listed
    by_quote h o r e = rw (h, o, begins-is text t "\"" r e)

  -- the two ways of a line of SetOptions
  option_pair : (list_open : Bool) (t : Span) → list_open & begins text "\"" t ≡ true → pair_saying (pair_in text t) ≡ option_saying text list_open t
  unfolding option_saying pair_saying
  option_pair list_open t y = rw (y, option_saying)

  option_key : (list_open : Bool) (t : Span) → list_open & begins text "\"" t ≡ false → key_saying text (keys_of Options) t ≡ option_saying text list_open t
  unfolding option_saying
  option_key list_open t n = rw (n, option_saying)

  module _ (takes : Takes) (list_open : Bool) (t : Span) (b : Bool) (e : b ≡ listed text takes list_open t) (s : Saying) where
    pub in_list : b ≡ true → s ≡ pair_saying (pair_in text t) → s ≡ saying_in text takes list_open t
    unfolding listed saying_in
    in_list y q = q ∙ go takes (sym e ∙ y)
      where
        go : (k : Takes) → listed text k list_open t ≡ true → pair_saying (pair_in text t) ≡ saying_in text k list_open t
        go NoLines z = never (sym z)
        go Options z = option_pair list_open t z
        go Garbage z = never (sym z)
        go Verify z = never (sym z)
        go Texts z = never (sym z)
        go Store z = never (sym z)
        go Multiple z = never (sym z)
        go FirstData z = never (sym z)
        go FirstRaw z = never (sym z)

    -- an operation whose lines have keys
    pub beside_list : OneOf with_keys (tag_of the_type takes) → b ≡ false → s ≡ key_saying text (keys_of takes) t → s ≡ saying_in text takes list_open t
    unfolding listed saying_in
    beside_list h n q = q ∙ go takes h (sym e ∙ n)
      where
        go : (k : Takes) → OneOf with_keys (tag_of the_type k) → listed text k list_open t ≡ false → key_saying text (keys_of k) t ≡ saying_in text k list_open t
        go NoLines m z = absurd (miss with_keys 0 tt m)
        go Options m z = option_key list_open t z
        go Garbage m z = refl
        go Verify m z = refl
        go Texts m z = refl
        go Store m z = refl
        go Multiple m z = refl
        go FirstData m z = refl
        go FirstRaw m z = absurd (miss with_keys 8 tt m)

  -- the lines that an operation takes are known
  pub takes_told : (takes told : Takes) (list_open : Bool) (t : Span) (s : Saying) → takes ≡ told → s ≡ saying_in text told list_open t → s ≡ saying_in text takes list_open t
  takes_told takes told list_open t s h q = rw (h, q)

pub ruleset raw_words = (raw_found, raw-missing)

pub ruleset keyed_words = (keyed_known, keyed_unknown)

pub ruleset colon_words = (colon_found, colon_missing)

pub ruleset quote_words = (no_quote, in_quotes)

pub ruleset pair_words = (no_name, no_equals, no_value, pair_found)

pub ruleset list_words = (not_open, by_quote)
