-- Unquoting: the five replacements, taken one token at a time, and the quotes around them. Assumes nothing.
use Prim.Native.Nat.{ℕ, suc, ◌-◌, ◌≤◌, ◌<◌}
use mathlib.Core.Path.{◌≡◌, refl, sym, ap, ◌∙◌}
use mathlib.Core.Bool.{Bool, true, false}
use mathlib.Core.List.{List, [], ◌∷◌}
use native.Mathlib.Nat.{le_trans}
use native.Mathlib.Omega.{arith}
use lib.Dec.{eqb, leb}
use lib.ListN.{length, get_or, take, drop, take-append-drop, length-append, length-drop}
use borrow.Author.Tests.{eq-eqb, ne_eqb, eqb-true, eqb-false, leb-true}
use Rattle.std.proofs.lemmas.List.{take_rest}
use Rattle.text.proofs.Scan.{by_cases, and_false, both}
use Rattle.std.specs.Prelude.{if◌then◌else◌}
use Rattle.text.specs.Base.{◌&◌, LF, CR, TAB, QUOTE, BACKSLASH}
use Rattle.unquote.specs.declared.Token.{Token}
use Rattle.values.specs.Unquote.{quoted, between, replaced, Escape, escapes, replaced_in_order, unescaped, unquoted}
use Rattle.unquote.specs.UnquoteWalk.{meant, token, escape_of, token_of, first_token}

abbrev ◌isnt◌ : ℕ → ℕ → Type 0
◌isnt◌ x y = x ≡ y → ⊥

-- ---- one replacement

module _ (a b by : ℕ) where
  -- a byte that is no a stays
  skip : (x : ℕ) (l : List ℕ) → ◌isnt◌ x a → replaced a b by (x ∷ l) ≡ x ∷ replaced a b by l
  unfolding replaced
  skip x [] n = refl
  skip x (y ∷ l) n = rw (ne_eqb x a n)

  -- an a with no b after it stays
  alone : (l : List ℕ) → ◌isnt◌ (get_or l 0 0) b → replaced a b by (a ∷ l) ≡ a ∷ replaced a b by l
  unfolding replaced
  alone [] n = refl
  alone (y ∷ l) n = rw (ne_eqb y b n, and_false (eqb a a))

  pair : (l : List ℕ) → replaced a b by (a ∷ b ∷ l) ≡ by ∷ replaced a b by l
  unfolding replaced
  pair l = rw (eq-eqb a a refl, eq-eqb b b refl)

  -- the first byte is what it was, or `by`
  first : (P : ℕ → Type 0) (l : List ℕ) → P by → P (get_or l 0 0) → P (get_or (replaced a b by l) 0 0)
  unfolding replaced
  first P [] p q = q
  first P (x ∷ []) p q = q
  first P (x ∷ y ∷ l) p q = by_cases (λ (r : List ℕ). P (get_or r 0 0)) (eqb x a & eqb y b) (by ∷ replaced a b by l) (x ∷ replaced a b by (y ∷ l)) p q

-- ---- the first four

-- a byte that means nothing after a backslash is none of the four
no_n : (c : ℕ) → meant c ≡ 0 → ◌isnt◌ c 0x6E
unfolding meant
no_n c h e = let z : ◌≡◌ {A = ℕ} 10 0 = rw e at h in omega arith

no_r : (c : ℕ) → meant c ≡ 0 → ◌isnt◌ c 0x72
unfolding meant
no_r c h e = let z : ◌≡◌ {A = ℕ} 13 0 = rw e at h in omega arith

no_t : (c : ℕ) → meant c ≡ 0 → ◌isnt◌ c 0x74
unfolding meant
no_t c h e = let z : ◌≡◌ {A = ℕ} 9 0 = rw e at h in omega arith

no_q : (c : ℕ) → meant c ≡ 0 → ◌isnt◌ c QUOTE
unfolding meant
no_q c h e = let z : ◌≡◌ {A = ℕ} 0x22 0 = rw e at h in omega arith

abbrev rn : List ℕ → List ℕ
rn l = replaced BACKSLASH 0x6E LF l

abbrev rr : List ℕ → List ℕ
rr l = replaced BACKSLASH 0x72 CR l

abbrev rt : List ℕ → List ℕ
rt l = replaced BACKSLASH 0x74 TAB l

abbrev rq : List ℕ → List ℕ
rq l = replaced BACKSLASH QUOTE QUOTE l

four_replaced : List ℕ → List ℕ
four_replaced l = rq (rt (rr (rn l)))

four_skip : (x : ℕ) (l : List ℕ) → ◌isnt◌ x BACKSLASH → four_replaced (x ∷ l) ≡ x ∷ four_replaced l
unfolding four_replaced
four_skip x l n = rw (skip BACKSLASH 0x6E LF x l n, skip BACKSLASH 0x72 CR x (rn l) n, skip BACKSLASH 0x74 TAB x (rr (rn l)) n, skip BACKSLASH QUOTE QUOTE x (rt (rr (rn l))) n)

-- what holds of the first byte and of the four, holds of the first byte after
four_first : (P : ℕ → Type 0) (l : List ℕ) → P LF → P CR → P TAB → P QUOTE → P (get_or l 0 0) → P (get_or (four_replaced l) 0 0)
unfolding four_replaced
four_first P l n r t q h =
    first BACKSLASH QUOTE QUOTE P (rt (rr (rn l))) q
    (first BACKSLASH 0x74 TAB P (rr (rn l)) t (first BACKSLASH 0x72 CR P (rn l) r (first BACKSLASH 0x6E LF P l n h)))

four_alone : (l : List ℕ) → meant (get_or l 0 0) ≡ 0 → four_replaced (BACKSLASH ∷ l) ≡ BACKSLASH ∷ four_replaced l
unfolding four_replaced
four_alone l h =
    let y : ℕ = get_or l 0 0 in
    rw (
      alone BACKSLASH 0x6E LF l (no_n y h),
      alone BACKSLASH 0x72 CR (rn l) (first BACKSLASH 0x6E LF (λ c. ◌isnt◌ c 0x72) l (omega arith) (no_r y h)),
      alone BACKSLASH 0x74 TAB (rr (rn l))
          (first BACKSLASH 0x72 CR (λ c. ◌isnt◌ c 0x74) (rn l) (omega arith) (first BACKSLASH 0x6E LF (λ c. ◌isnt◌ c 0x74) l (omega arith) (no_t y h))),
      alone BACKSLASH QUOTE QUOTE (rt (rr (rn l)))
          (first BACKSLASH 0x74 TAB (λ c. ◌isnt◌ c QUOTE) (rr (rn l)) (omega arith)
          (first BACKSLASH 0x72 CR (λ c. ◌isnt◌ c QUOTE) (rn l) (omega arith) (first BACKSLASH 0x6E LF (λ c. ◌isnt◌ c QUOTE) l (omega arith) (no_q y h)))),
    )

module _ (l : List ℕ) where
  pair_n : four_replaced (BACKSLASH ∷ 0x6E ∷ l) ≡ LF ∷ four_replaced l
  unfolding four_replaced
  pair_n =
      rw (
        pair BACKSLASH 0x6E LF l,
        skip BACKSLASH 0x72 CR LF (rn l) (omega arith),
        skip BACKSLASH 0x74 TAB LF (rr (rn l)) (omega arith),
        skip BACKSLASH QUOTE QUOTE LF (rt (rr (rn l))) (omega arith),
      )

  pair_r : four_replaced (BACKSLASH ∷ 0x72 ∷ l) ≡ CR ∷ four_replaced l
  unfolding four_replaced
  pair_r =
      rw (
        alone BACKSLASH 0x6E LF (0x72 ∷ l) (omega arith),
        skip BACKSLASH 0x6E LF 0x72 l (omega arith),
        pair BACKSLASH 0x72 CR (rn l),
        skip BACKSLASH 0x74 TAB CR (rr (rn l)) (omega arith),
        skip BACKSLASH QUOTE QUOTE CR (rt (rr (rn l))) (omega arith),
      )

  pair_t : four_replaced (BACKSLASH ∷ 0x74 ∷ l) ≡ TAB ∷ four_replaced l
  unfolding four_replaced
  pair_t =
      rw (
        alone BACKSLASH 0x6E LF (0x74 ∷ l) (omega arith),
        skip BACKSLASH 0x6E LF 0x74 l (omega arith),
        alone BACKSLASH 0x72 CR (0x74 ∷ rn l) (omega arith),
        skip BACKSLASH 0x72 CR 0x74 (rn l) (omega arith),
        pair BACKSLASH 0x74 TAB (rr (rn l)),
        skip BACKSLASH QUOTE QUOTE TAB (rt (rr (rn l))) (omega arith),
      )

  pair_q : four_replaced (BACKSLASH ∷ QUOTE ∷ l) ≡ QUOTE ∷ four_replaced l
  unfolding four_replaced
  pair_q =
      rw (
        alone BACKSLASH 0x6E LF (QUOTE ∷ l) (omega arith),
        skip BACKSLASH 0x6E LF QUOTE l (omega arith),
        alone BACKSLASH 0x72 CR (QUOTE ∷ rn l) (omega arith),
        skip BACKSLASH 0x72 CR QUOTE (rn l) (omega arith),
        alone BACKSLASH 0x74 TAB (QUOTE ∷ rr (rn l)) (omega arith),
        skip BACKSLASH 0x74 TAB QUOTE (rr (rn l)) (omega arith),
        pair BACKSLASH QUOTE QUOTE (rt (rr (rn l))),
      )

  four_pair : (c : ℕ) → (meant c ≡ 0 → ⊥) → four_replaced (BACKSLASH ∷ c ∷ l) ≡ meant c ∷ four_replaced l
  unfolding meant
  four_pair c h = go (eqb c 0x6E) refl (eqb c 0x72) refl (eqb c 0x74) refl (eqb c QUOTE) refl
    where
      go : (n : Bool) → eqb c 0x6E ≡ n → (r : Bool) → eqb c 0x72 ≡ r → (t : Bool) → eqb c 0x74 ≡ t → (q : Bool) → eqb c QUOTE ≡ q
          → four_replaced (BACKSLASH ∷ c ∷ l) ≡ meant c ∷ four_replaced l
      go true n r er t et q eq = rw (eqb-true c 0x6E n) pair_n
      go false n true r t et q eq = rw (eqb-true c 0x72 r) pair_r
      go false n false r true t q eq = rw (eqb-true c 0x74 t) pair_t
      go false n false r false t true q = rw (eqb-true c QUOTE q) pair_q
      go false n false r false t false q = absurd (h (rw (n, r, t, q)))

-- ---- all five

-- no meaning is a backslash
no_backslash : (c : ℕ) → ◌isnt◌ (meant c) BACKSLASH
unfolding meant
no_backslash c =
    let P : ℕ → Type 0 = λ m. ◌isnt◌ m BACKSLASH in
    by_cases P (eqb c 0x6E) _ _ (omega arith)
    (by_cases P (eqb c 0x72) _ _ (omega arith) (by_cases P (eqb c 0x74) _ _ (omega arith) (by_cases P (eqb c QUOTE) _ _ (omega arith) (omega arith))))

abbrev r5 : List ℕ → List ℕ
r5 l = replaced BACKSLASH BACKSLASH BACKSLASH l

five : (l : List ℕ) → unescaped l ≡ r5 (four_replaced l)
unfolding unescaped replaced_in_order four_replaced
five l = refl

plain : (x : ℕ) (l : List ℕ) → ◌isnt◌ x BACKSLASH → unescaped (x ∷ l) ≡ x ∷ unescaped l
plain x l n = rw (five, five, four_skip x l n, skip BACKSLASH BACKSLASH BACKSLASH x (four_replaced l) n)

escape : (c : ℕ) (l : List ℕ) → (meant c ≡ 0 → ⊥) → unescaped (BACKSLASH ∷ c ∷ l) ≡ meant c ∷ unescaped l
escape c l h = rw (five, five, four_pair l c h, skip BACKSLASH BACKSLASH BACKSLASH (meant c) (four_replaced l) (no_backslash c))

single : (l : List ℕ) → meant (get_or l 0 0) ≡ 0 → ◌isnt◌ (get_or l 0 0) BACKSLASH → unescaped (BACKSLASH ∷ l) ≡ BACKSLASH ∷ unescaped l
single l h n =
    rw (
      five,
      five,
      four_alone l h,
      alone BACKSLASH BACKSLASH BACKSLASH (four_replaced l) (four_first (λ c. ◌isnt◌ c BACKSLASH) l (omega arith) (omega arith) (omega arith) (omega arith) n),
    )

double : (l : List ℕ) → meant (get_or l 0 0) ≡ 0 → unescaped (BACKSLASH ∷ BACKSLASH ∷ l) ≡ BACKSLASH ∷ unescaped l
unfolding meant
double l h = rw (five, five, four_alone (BACKSLASH ∷ l) refl, four_alone l h, pair BACKSLASH BACKSLASH BACKSLASH (four_replaced l))

-- two backslashes before one of the four: the first stays
before_escape : (c : ℕ) (l : List ℕ) → (meant c ≡ 0 → ⊥) → unescaped (BACKSLASH ∷ BACKSLASH ∷ c ∷ l) ≡ BACKSLASH ∷ unescaped (BACKSLASH ∷ c ∷ l)
unfolding meant
before_escape c l h =
    rw (
      five,
      five,
      four_alone (BACKSLASH ∷ c ∷ l) refl,
      four_pair l c h,
      alone BACKSLASH BACKSLASH BACKSLASH (meant c ∷ four_replaced l) (no_backslash c),
    )

-- ---- one token at a time

abbrev Law : List ℕ → Token → Type 0
Law s t = unescaped s ≡ t.byte ∷ unescaped (drop t.size s)

law_backslash : (rest : List ℕ)
    → (m : Bool) → eqb (meant (get_or rest 0 0)) 0 ≡ m
    → (k : Bool) → eqb (get_or rest 0 0) BACKSLASH ≡ k
    → (n : Bool) → eqb (meant (get_or rest 1 0)) 0 ≡ n
    → Law (BACKSLASH ∷ rest)
    (if m then (if k & n then token BACKSLASH 2 else token BACKSLASH 1) else token (meant (get_or rest 0 0)) 2)
unfolding meant
law_backslash rest true em false ek n en = single rest (eqb-true (meant (get_or rest 0 0)) 0 em) (eqb-false (get_or rest 0 0) BACKSLASH ek)
law_backslash [] true em true ek n en = absurd (let z : ◌≡◌ {A = ℕ} 0 BACKSLASH = eqb-true 0 BACKSLASH ek in omega arith)
law_backslash (y ∷ l) true em true ek true en = rw (eqb-true y BACKSLASH ek) (double l (eqb-true (meant (get_or l 0 0)) 0 en))
law_backslash (y ∷ []) true em true ek false en = absurd (eqb-false (meant 0) 0 en refl)
law_backslash (y ∷ c ∷ l) true em true ek false en = rw (eqb-true y BACKSLASH ek) (before_escape c l (eqb-false (meant c) 0 en))
law_backslash [] false em k ek n en = absurd (eqb-false (meant 0) 0 em refl)
law_backslash (c ∷ l) false em k ek n en = escape c l (eqb-false (meant c) 0 em)

law_first : (x : ℕ) (rest : List ℕ) → Law (x ∷ rest) (token_of x (get_or rest 0 0) (get_or rest 1 0))
unfolding token_of escape_of
law_first x rest = go (eqb x BACKSLASH) refl
  where
    y : ℕ
    y = get_or rest 0 0

    z : ℕ
    z = get_or rest 1 0

    go : (b : Bool) → eqb x BACKSLASH ≡ b
        → Law (x ∷ rest)
        (if b then escape_of y z else token x 1)
    go true e = rw (eqb-true x BACKSLASH e) (law_backslash rest (eqb (meant y) 0) refl (eqb y BACKSLASH) refl (eqb (meant z) 0) refl)
    go false e = plain x rest (eqb-false x BACKSLASH e)

size_of : (x y z : ℕ) → (1 ≤ (token_of x y z).size) × ((token_of x y z).size ≤ 2)
unfolding token_of escape_of
size_of x y z =
    let P : Token → Type 0 = λ t. (1 ≤ t.size) × (t.size ≤ 2) in
    by_cases P (eqb x BACKSLASH) _ _
    (by_cases P (eqb (meant y) 0) _ _ (by_cases P (eqb y BACKSLASH & eqb (meant z) 0) _ _ (omega arith) (omega arith)) (omega arith)) (omega arith)

-- nothing is left of nothing
pub none_left : (s : List ℕ) → true ≡ eqb (length s) 0 → unescaped s ≡ []
unfolding unescaped replaced_in_order replaced
none_left [] e = refl
none_left (x ∷ s) e = let z = eqb-true (length (x ∷ s)) 0 (sym e) in absurd (omega arith)

in_text : (x : ℕ) (rest : List ℕ) → (token_of x (get_or rest 0 0) (get_or rest 1 0)).size ≤ suc (length rest)
unfolding token_of escape_of meant
in_text x [] = by_cases (λ (t : Token). t.size ≤ 1) (eqb x BACKSLASH) _ _ (omega arith) (omega arith)
in_text x (y ∷ rest) = omega (arith, (size_of x y (get_or rest 0 0)).1)

-- the first token lies in the text, and the result's first byte is its byte
module _ (s : List ℕ) (t : Token) where
  pub token_fits : t ≡ first_token s → 0 < length s → t.size ≤ length s
  unfolding first_token
  token_fits e h = go s h e
    where
      go : (s : List ℕ) → 0 < length s → t ≡ first_token s → t.size ≤ length s
      go [] h e = absurd (omega arith)
      go (x ∷ rest) h e = rw e (in_text x rest)

  pub token_law : t ≡ first_token s → 0 < length s → unescaped s ≡ t.byte ∷ unescaped (take (length s - t.size) (drop t.size s))
  unfolding first_token
  token_law e h = rw take_rest (go s h e)
    where
      go : (s : List ℕ) → 0 < length s → t ≡ first_token s → unescaped s ≡ t.byte ∷ unescaped (drop t.size s)
      go [] h e = absurd (omega arith)
      go (x ∷ rest) h e = rw e (law_first x rest)

-- ---- the quotes

abbrev pub inner : List ℕ → List ℕ
inner s = unescaped (take (length s - 1 - 1) (drop 1 s))

-- b says whether the text is quoted
module _ (s : List ℕ) (b : Bool) (e : b ≡ quoted s) where
  long : b ≡ true → 2 ≤ length s
  unfolding quoted
  long t =
      let first = eqb (get_or s 0 0) QUOTE in
      let last = eqb (get_or s (length s - 1) 0) QUOTE in
      leb-true 2 (length s) (both last (leb 2 (length s)) (both first (last & leb 2 (length s)) (sym e ∙ t)).1).1

  pub end_in : b ≡ true → 1 ≤ length s
  end_in t = omega (arith, long t)

  pub start_in : b ≡ true → 1 ≤ length s - 1
  start_in t = omega (arith, long t)

  within_quotes : b ≡ true → inner s ≡ unquoted s
  unfolding unquoted between
  within_quotes t =
      let n : length s - 1 - 1 ≡ length s - 2 = omega arith in
      rw (sym e ∙ t) (ap (λ (n : ℕ). unescaped (take n (drop 1 s))) n)

  as_it_is : b ≡ false → s ≡ unquoted s
  unfolding unquoted
  as_it_is t = rw (sym e ∙ t)

  -- as the code asks it: of the length, of the room, and of the result
  pub quoted_long : (n : ℕ) → n ≡ length (inner s) → b ≡ true → n ≡ length (unquoted s)
  quoted_long n h t = h ∙ ap length (within_quotes t)

  pub plain_long : b ≡ false → length s ≡ length (unquoted s)
  plain_long t = ap length (as_it_is t)

  pub quoted-room : (n : ℕ) → n ≡ length (unquoted s) → b ≡ true → n ≡ length (inner s)
  quoted-room n h t = h ∙ sym (ap length (within_quotes t))

  pub plain-room : (n : ℕ) → n ≡ length (unquoted s) → b ≡ false → n ≡ length s
  plain-room n h t = h ∙ sym (plain_long t)

  pub quoted-is : (r : List ℕ) → r ≡ inner s → b ≡ true → r ≡ unquoted s
  quoted-is r h t = h ∙ within_quotes t

  pub plain-is : (r : List ℕ) → r ≡ s → b ≡ false → r ≡ unquoted s
  plain-is r h t = h ∙ as_it_is t

pub ruleset quotes = (end_in, start_in, quoted_long, plain_long, quoted-room, plain-room, quoted-is, plain-is)

-- ---- no text grows

replaced_shorter : (a b by : ℕ) (s : List ℕ) → length (replaced a b by s) ≤ length s
unfolding replaced
replaced_shorter a b by [] = omega arith
replaced_shorter a b by (x ∷ []) = omega arith
replaced_shorter a b by (x ∷ y ∷ s) =
    let both = replaced_shorter a b by s in
    let one = replaced_shorter a b by (y ∷ s) in
    by_cases (λ l. length l ≤ length (x ∷ y ∷ s)) (eqb x a & eqb y b) (by ∷ replaced a b by s) (x ∷ replaced a b by (y ∷ s)) (omega arith) (omega arith)

all_shorter : (rows : List Escape) (s : List ℕ) → length (replaced_in_order rows s) ≤ length s
unfolding replaced_in_order
all_shorter [] s = omega arith
all_shorter (e ∷ rows) s =
    le_trans (all_shorter rows (replaced BACKSLASH e.letter e.byte s)) (replaced_shorter BACKSLASH e.letter e.byte s)

pub unescaped_shorter : (s : List ℕ) → length (unescaped s) ≤ length s
unfolding unescaped
unescaped_shorter s = all_shorter escapes s

pub unquoted_shorter : (s : List ℕ) → length (unquoted s) ≤ length s
unfolding unquoted between
unquoted_shorter s =
    let n = length s - 2 in
    let cut = drop 1 s in
    by_cases (λ l. length l ≤ length s) (quoted s) (unescaped (between s)) s
    (omega (arith, unescaped_shorter (take n cut), ap length (take-append-drop n cut), length-append (take n cut) (drop n cut), length-drop 1 s))
    (omega arith)
