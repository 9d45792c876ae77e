-- The laws of words that the proofs of callers cite: the words from a place on are the first word there and the words from its end on. Assumes nothing.
use Prim.Native.Nat.{ℕ, zero, suc, ◌+◌, ◌-◌, ◌≤◌, ◌<◌}
use mathlib.Core.Path.{◌≡◌, refl, sym, ap, ◌∙◌}
use mathlib.Core.Bool.{Bool, true, false}
use mathlib.Core.List.{List, [], ◌∷◌}
use native.Mathlib.Omega.{arith}
use native.Mathlib.Nat.{add-zero, sub_self}
use lib.Dec.{eqb}
use lib.ListN.{length, get_or, drop, length-drop}
use lib.Seq.{drop-nil, drop-drop}
use borrow.Author.Tests.{eq-eqb, ne_eqb, eqb-false}
use Rattle.text.proofs.Scan.{shift, rest_more, rest-none}
use Rattle.std.specs.Prelude.{if◌then◌else◌}
use Rattle.text.specs.Trim.{white_bytes, size_of}
use Rattle.text.specs.declared.parts.Span.{Span}
use Rattle.text.specs.Parts.{span}
use Rattle.text.specs.Words.{words_from, word_from, word_at}

-- the words from `at` on
abbrev pub words_at : List ℕ → (at : ℕ) → List Span
words_at s at = words_from 0 at at (drop at s)

-- what is known of the first word w from a place on, and of the words ws from there
record Here (start at : ℕ) (rest : List ℕ) (w : Span) (ws : List Span) : Type 0 where
  begins : start ≤ w.start
  forward : w.start ≤ w.end
  reaches : at ≤ w.end
  inside : w.end ≤ at + length rest
  none : w.start ≡ w.end → ws ≡ []
  more : (w.start ≡ w.end → ⊥) → ws ≡ w ∷ words_from 0 w.end w.end (drop (w.end - at) rest)

-- a byte further on
wider : (x : ℕ) (rest : List ℕ) (start start' at : ℕ) (w : Span) (ws : List Span) → start' ≤ start → Here start (at + 1) rest w ws → Here start' at (x ∷ rest) w ws
wider x rest start start' at w ws l k =
    record {
      begins = omega (arith, k.begins);
      forward = k.forward;
      reaches = omega (arith, k.reaches);
      inside = omega (arith, k.inside);
      none = k.none;
      more = λ n. k.more n ∙ ap (λ (r : List ℕ). w ∷ words_from 0 w.end w.end r) (shift x rest at w.end k.reaches);
    }

at_end : (start at : ℕ) → start ≤ at → Here start at [] (span start at) (if eqb start at then [] else (span start at ∷ []))
unfolding words_from
at_end start at l =
    record {
      begins = omega arith;
      forward = omega arith;
      reaches = omega arith;
      inside = omega arith;
      none = λ n. rw (eq-eqb start at n);
      more = λ n. rw (ne_eqb start at n, drop-nil, eq-eqb at at refl);
    }

here : (skip start : ℕ) (rest : List ℕ) (at : ℕ) → start ≤ at → Here start at rest (word_from skip start at rest) (words_from skip start at rest)
unfolding word_from words_from
here zero start [] at l = at_end start at l
here (suc skip) start [] at l = at_end start at l
here (suc skip) start (x ∷ rest) at l = wider x rest (at + 1) start at _ _ (omega arith) (here skip (at + 1) rest (at + 1) (omega arith))
here zero start (x ∷ rest) at l =
    go (eqb (size_of white_bytes (x ∷ rest)) 0) refl (eqb start at) refl
    (wider x rest start start at _ _ (omega arith) (here 0 start rest (at + 1) (omega arith)))
    (wider x rest (at + 1) start at _ _ (omega arith) (here (size_of white_bytes (x ∷ rest) - 1) (at + 1) rest (at + 1) (omega arith)))
  where
    skipped : ℕ
    skipped = size_of white_bytes (x ∷ rest) - 1

    go : (t : Bool) → eqb (size_of white_bytes (x ∷ rest)) 0 ≡ t → (u : Bool) → eqb start at ≡ u
        → Here start at (x ∷ rest) (word_from 0 start (at + 1) rest) (words_from 0 start (at + 1) rest)
        → Here start at (x ∷ rest) (word_from skipped (at + 1) (at + 1) rest) (words_from skipped (at + 1) (at + 1) rest)
        → Here start at (x ∷ rest)
        (if t then word_from 0 start (at + 1) rest else if u then word_from skipped (at + 1) (at + 1) rest else span start at)
        (if t then words_from 0 start (at + 1) rest else if u then words_from skipped (at + 1) (at + 1) rest else (span start at ∷ words_from skipped (at + 1) (at + 1) rest))
    go true e u f longer apart = longer
    go false e true f longer apart = apart
    go false e false f longer apart =
        record {
          begins = omega arith;
          forward = omega arith;
          reaches = omega arith;
          inside = omega arith;
          none = λ n. absurd (eqb-false start at f n);
          more = λ n. rw (sub_self at, e, eq-eqb at at refl);
        }

-- what a walk needs of the first word from a place on
pub record Known (s : List ℕ) (at : ℕ) (w : Span) : Type 0 where
  pub begins : at ≤ w.start
  pub forward : w.start ≤ w.end
  pub inside : w.end ≤ length s
  pub none : w.start ≡ w.end → words_at s at ≡ []
  pub more : (w.start ≡ w.end → ⊥) → words_at s at ≡ w ∷ words_at s w.end

pub known : (s : List ℕ) (at : ℕ) (w : Span) → at ≤ length s → w ≡ word_at s at → Known s at w
unfolding word_at
known s at w h q =
    let k : Here at at (drop at s) w (words_at s at) = rw q (here 0 at (drop at s) at (omega arith)) in
    let d = length-drop at s in
    let f = k.reaches in
    let e : at + (w.end - at) ≡ w.end = omega arith in
    record {
      begins = k.begins;
      forward = k.forward;
      inside = omega (arith, k.inside);
      none = k.none;
      more = λ n. k.more n ∙ ap (λ (r : List ℕ). w ∷ words_from 0 w.end w.end r) (drop-drop (w.end - at) at s ∙ ap (λ (m : ℕ). drop m s) e);
    }

-- The numbers of a word, for `search` to use.
module _ (s : List ℕ) (at : ℕ) (w : Span) (e : w ≡ word_at s at) (h : at ≤ length s) where
  pub word_forward : w.start ≤ w.end
  word_forward = (known s at w h e).forward

  pub word_inside : w.end ≤ length s
  word_inside = (known s at w h e).inside

pub ruleset word_places = (word_forward, word_inside)

-- ---- the two walks of the code: over White_Space, and over a word

skipped-white : (k : ℕ) (rest : List ℕ) (at : ℕ) → k ≤ length rest → word_from k at at rest ≡ word_from 0 (at + k) (at + k) (drop k rest)
unfolding word_from
skipped-white zero rest at h = rw (add-zero at)
skipped-white (suc k) [] at h = absurd (omega arith)
skipped-white (suc k) (x ∷ rest) at h = let e : at + 1 + k ≡ at + suc k = omega arith in rw (← e) (skipped-white k rest (at + 1) (omega arith))

module _ (s : List ℕ) (i n : ℕ) (whole : Span) (h : i < length s) (e : n ≡ size_of white_bytes (drop i s)) where
  -- a White_Space character of n bytes before any word
  pub white-on : word_from 0 i i (drop i s) ≡ whole → (n ≡ 0 → ⊥) → n ≤ length s - i → word_from 0 (i + n) (i + n) (drop (i + n) s) ≡ whole
  unfolding word_from
  white-on q z l =
      let d = length-drop (i + 1) s in
      let j : i + 1 + (n - 1) ≡ i + n = omega arith in
      let k : size_of white_bytes (get_or s i 0 ∷ drop (i + 1) s) ≡ n = sym (rw (rest_more s i h) at e) in
      let p : word_from (n - 1) (i + 1) (i + 1) (drop (i + 1) s) ≡ whole = rw (rest_more s i h, k, ne_eqb n 0 z, eq-eqb i i refl) at q in
      let r = skipped-white (n - 1) (drop (i + 1) s) (i + 1) (omega arith) in
      rw (← j, ← drop-drop (n - 1) (i + 1) s) (sym r ∙ p)

  pub no_white : n ≡ 0 → i < length s → size_of white_bytes (drop i s) ≡ 0
  no_white z g = sym e ∙ z

  module _ (start : ℕ) (q : word_from 0 start i (drop i s) ≡ whole) where
    -- a byte more of the word
    pub word_on : n ≡ 0 → word_from 0 start (i + 1) (drop (i + 1) s) ≡ whole
    unfolding word_from
    word_on z =
        let k : size_of white_bytes (get_or s i 0 ∷ drop (i + 1) s) ≡ 0 = sym (rw (rest_more s i h) at e) ∙ z in
        rw (rest_more s i h, k) at q

    -- White_Space behind the word: it does not stand where the word began
    pub word_over : (n ≡ 0 → ⊥) → (start < length s → size_of white_bytes (drop start s) ≡ 0) → start ≤ i → span start i ≡ whole
    unfolding word_from
    word_over z first l =
        let k : size_of white_bytes (get_or s i 0 ∷ drop (i + 1) s) ≡ n = sym (rw (rest_more s i h) at e) in
        rw (rest_more s i h, k, ne_eqb n 0 z, ne_eqb start i (λ f. z (e ∙ ap (λ (j : ℕ). size_of white_bytes (drop j s)) (sym f) ∙ first (omega arith)))) at q

pub word_end : (s : List ℕ) (start i : ℕ) (whole : Span) → word_from 0 start i (drop i s) ≡ whole → length s ≤ i → span start i ≡ whole
unfolding word_from
word_end s start i whole q h = rw (rest-none s i h) at q

pub ruleset word_steps = (white-on, no_white, word_on, word_over, word_end)
