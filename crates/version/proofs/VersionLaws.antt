-- From the parts that the code finds to the definition of a version. Assumes nothing.
use borrow.Author.Tests.{not-true, not-false}
use Rattle.std.specs.Prelude.{None, Option, Some}
use Prim.Native.Nat.{ℕ, ◌+◌, ◌-◌, ◌^◌, ◌≤◌, ◌<◌}
use mathlib.Core.Path.{◌≡◌, refl, sym, ap, ◌∙◌}
use mathlib.Core.Bool.{Bool, true, false}
use mathlib.Core.List.{List, [], ◌∷◌}
use native.Mathlib.Omega.{arith}
use lib.ListN.{length}
use Rattle.text.specs.Base.{part}
use Rattle.values.specs.Numbers.{number}
use Rattle.text.specs.Parts.{split, part_at}
use Rattle.text.specs.declared.parts.Part.{Part}
use Rattle.values.proofs.NumberLaws.{number-below}
use Rattle.text.proofs.PartLaws.{parts_at, Known, known}
use Rattle.version.specs.Version.{DOT, versioned, of_numbers, of_parts, version}
use Rattle.version.specs.declared.ProtocolVersion.{ProtocolVersion}

-- numbers that were read are in range
module _ (s : List ℕ) (x : Option ℕ) (n : ℕ) where
  pub is_u16 : x ≡ number (2 ^ 16) s → x ≡ Some n → n < 2 ^ 16
  is_u16 e h = number-below (2 ^ 16) s n (sym e ∙ h)

  pub is_u8 : x ≡ number (2 ^ 8) s → x ≡ Some n → n < 2 ^ 8
  is_u8 e h = number-below (2 ^ 8) s n (sym e ∙ h)

-- the parts of a text from its start
all_parts : (s : List ℕ) (ps : List Part) → parts_at DOT s 0 ≡ ps → version s ≡ of_parts s ps
unfolding version split
all_parts s ps e = ap (of_parts s) e

-- there is a part at each place
some-part : (s : List ℕ) (at : ℕ) → at ≤ length s → (p : Part) × (ps : List Part) × (parts_at DOT s at ≡ p ∷ ps)
some-part s at h = go (part_at DOT s at).more refl
  where
    k : Known DOT s at (part_at DOT s at)
    k = known DOT s at (part_at DOT s at) h refl

    go : (b : Bool) → (part_at DOT s at).more ≡ b → (p : Part) × (ps : List Part) × (parts_at DOT s at ≡ p ∷ ps)
    go true e = (part_at DOT s at, parts_at DOT s ((part_at DOT s at).end + 1), k.more e)
    go false e = (part_at DOT s at, [], k.last e)

module _ (s : List ℕ) (p : Part) (e : p ≡ part_at DOT s 0) where
  at_first : Known DOT s 0 p
  at_first = known DOT s 0 p (omega arith) e

  pub one_part : p.more ≡ false → None ≡ version s
  unfolding of_parts
  one_part h = sym (all_parts s (p ∷ []) (at_first.last h))

  pub dot_inside : p.more ≡ true → p.end < length s
  dot_inside h = at_first.short h

  pub in_text : p.end ≤ length s
  in_text = at_first.inside

  module _ (h : p.more ≡ true) (q : Part) (f : q ≡ part_at DOT s (p.end + 1)) where
    at_second : Known DOT s (p.end + 1) q
    at_second = known DOT s (p.end + 1) q (omega (arith, dot_inside h)) f

    pub forward : p.end + 1 ≤ q.end
    forward = at_second.forward

    pub inside : q.end ≤ length s
    inside = at_second.inside

    pub three_parts : q.more ≡ true → None ≡ version s
    unfolding of_parts
    three_parts m =
        let third = some-part s (q.end + 1) (omega (arith, at_second.short m)) in
        sym
        (all_parts s (p ∷ q ∷ third.0 ∷ third.1)
        (at_first.more h ∙ ap (λ (l : List Part). p ∷ l) (at_second.more m ∙ ap (λ (l : List Part). q ∷ l) third.2)))

    module _ (m : q.more ≡ false) (x : Option ℕ) (a : x ≡ number (2 ^ 16) (part s 0 (p.end - 0))) where
      major : x ≡ number (2 ^ 16) (part s p.start (p.end - p.start))
      major = rw at_first.begins a

      two_parts : version s ≡ of_numbers (number (2 ^ 16) (part s p.start (p.end - p.start))) (number (2 ^ 8) (part s q.start (q.end - q.start)))
      unfolding of_parts
      two_parts = all_parts s (p ∷ q ∷ []) (at_first.more h ∙ ap (λ (l : List Part). p ∷ l) (at_second.last m))

      pub no_major : x ≡ None → None ≡ version s
      unfolding of_numbers
      no_major b = sym (two_parts ∙ rw (← major, b))

      module _ (y : Option ℕ) (c : y ≡ number (2 ^ 8) (part s (p.end + 1) (q.end - (p.end + 1)))) where
        minor : y ≡ number (2 ^ 8) (part s q.start (q.end - q.start))
        minor = rw at_second.begins c

        pub no_minor : (n : ℕ) → x ≡ Some n → y ≡ None → None ≡ version s
        unfolding of_numbers
        no_minor n v b = sym (two_parts ∙ rw (← major, ← minor, v, b))

        pub both_read : (n k : ℕ) (v : ProtocolVersion) → x ≡ Some n → y ≡ Some k → v ≡ versioned n k → Some v ≡ version s
        unfolding of_numbers
        both_read n k v i j w = sym (two_parts ∙ rw (← major, ← minor, i, j, w))

pub ruleset version_steps = (one_part, in_text, dot_inside, forward, inside, three_parts, no_major, no_minor, both_read)

-- what `parse_version` goes by
pub ruleset parse_version_laws = (version_steps, is_u16, is_u8, not-true, not-false)
