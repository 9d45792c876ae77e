-- The expectation lines in line order: their numbers never fall, so those that belong to n stand together, behind those of smaller numbers.
-- Assumes nothing.
use mathlib.Core.Path.{◌≡◌, refl, ap, ◌∙◌}
use mathlib.Core.List.{List, [], ◌∷◌, ◌++◌, map}
use Prim.Native.Nat.{ℕ, suc, ◌+◌, ◌≤◌, ◌<◌}
use native.Mathlib.Omega.{arith}
use native.Mathlib.Nat.{le_refl}
use lib.ListN.{length, take, drop}
use lib.Dec.{ltb}
use borrow.Author.Tests.{le-ltb, ne_eqb}
use Rattle.std.specs.Prelude.{if◌then◌else◌}
use Rattle.text.specs.declared.lines.Line.{Line}
use Rattle.script.specs.Plain.{PlainLine, expects, opens, other, opened, expectation_lines, owners}
use Rattle.verdicts.specs.Expected.{Expected}
use Rattle.judging.specs.PlainJudge.{Owned, own, owned, belonging}
use Rattle.judging.specs.Claim.{number_of, said_of}
use Rattle.judging.proofs.Orders.{Order, less, same, more, order}

-- ---- the lines of a text

-- the expectation lines among some lines, where the number so far is k
abbrev pub lines_by : (Line → Expected) → (k : ℕ) → List PlainLine → List Owned
lines_by says k ps = owned (owners k ps) (map says (expectation_lines ps))

module _ (says : Line → Expected) where
  pub lines_numbers : (k : ℕ) (ps : List PlainLine) → map number_of (lines_by says k ps) ≡ owners k ps
  unfolding owned owners expectation_lines number_of
  lines_numbers k [] = refl
  lines_numbers k (expects l ∷ ps) = ap (λ (r : List ℕ). k ∷ r) (lines_numbers k ps)
  lines_numbers k (opens ∷ ps) = lines_numbers (suc k) ps
  lines_numbers k (other ∷ ps) = lines_numbers k ps

  pub lines-said : (k : ℕ) (ps : List PlainLine) → map said_of (lines_by says k ps) ≡ map says (expectation_lines ps)
  unfolding owned owners expectation_lines said_of
  lines-said k [] = refl
  lines-said k (expects l ∷ ps) = ap (λ (r : List Expected). says l ∷ r) (lines-said k ps)
  lines-said k (opens ∷ ps) = lines-said (suc k) ps
  lines-said k (other ∷ ps) = lines-said k ps

-- below some lines the number so far is that of the last opening line among them
pub owners-below : (k : ℕ) (above below : List PlainLine) → owners k (above ++ below) ≡ owners k above ++ owners (k + opened above) below
unfolding owners opened
owners-below k [] below = let e : k ≡ k + 0 = omega arith in ap (λ (n : ℕ). owners n below) e
owners-below k (expects l ∷ ps) below = ap (λ (r : List ℕ). k ∷ r) (owners-below k ps below)
owners-below k (opens ∷ ps) below =
    let e : suc k + opened ps ≡ k + suc (opened ps) = omega arith in
    owners-below (suc k) ps below ∙ ap (λ (n : ℕ). owners (suc k) ps ++ owners n below) e
owners-below k (other ∷ ps) below = owners-below k ps below

-- ---- rising numbers

-- the numbers never fall, and none is below j
abbrev pub Rising : ℕ → List Owned → Type 0
Rising j [] = Unit {0}
Rising j (own k e ∷ ls) = (j ≤ k) × Rising k ls

pub lines_rise : (says : Line → Expected) (j k : ℕ) (ps : List PlainLine) → j ≤ k → Rising j (lines_by says k ps)
unfolding owned owners expectation_lines
lines_rise says j k [] h = tt
lines_rise says j k (expects l ∷ ps) h = (h, lines_rise says k k ps (le_refl k))
lines_rise says j k (opens ∷ ps) h = lines_rise says j (suc k) ps (omega arith)
lines_rise says j k (other ∷ ps) h = lines_rise says j k ps h

-- ---- the lines of one number

-- how many expectation lines belong to a number below n
unfoldable pub earlier : (n : ℕ) → List Owned → ℕ
earlier n [] = 0
earlier n (own k e ∷ ls) = if ltb k n then suc (earlier n ls) else earlier n ls

module _ (n : ℕ) where
  pub earlier_none : (j : ℕ) (ls : List Owned) → n ≤ j → Rising j ls → earlier n ls ≡ 0
  unfolding earlier
  earlier_none j [] h r = refl
  earlier_none j (own k e ∷ ls) h r = rw (le-ltb k n (omega arith)) (earlier_none k ls (omega arith) r.1)

  pub belonging-none : (j : ℕ) (ls : List Owned) → n < j → Rising j ls → belonging n ls ≡ []
  unfolding belonging
  belonging-none j [] h r = refl
  belonging-none j (own k e ∷ ls) h r = rw (ne_eqb k n (λ x. omega arith)) (belonging-none k ls (omega arith) r.1)

  pub belonging_fit : (ls : List Owned) → earlier n ls + length (belonging n ls) ≤ length ls
  unfolding earlier belonging
  belonging_fit [] = omega arith
  belonging_fit (own k e ∷ ls) = go (order k n) (belonging_fit ls)
    where
      go : Order k n → earlier n ls + length (belonging n ls) ≤ length ls → earlier n (own k e ∷ ls) + length (belonging n (own k e ∷ ls)) ≤ suc (length ls)
      go (less h x y) ih = rw (x, y) (omega arith)
      go (same h x y) ih = rw (x, y) (omega arith)
      go (more h x y) ih = rw (x, y) (omega arith)

  -- those that belong to n, cut out by place
  pub belonging-cut : (j : ℕ) (ls : List Owned) → Rising j ls → take (length (belonging n ls)) (drop (earlier n ls) (map said_of ls)) ≡ belonging n ls
  unfolding earlier belonging said_of
  belonging-cut j [] r = refl
  belonging-cut j (own k e ∷ ls) r = go (order k n) (belonging-cut k ls r.1)
    where
      go : Order k n → take (length (belonging n ls)) (drop (earlier n ls) (map said_of ls)) ≡ belonging n ls
          → take (length (belonging n (own k e ∷ ls))) (drop (earlier n (own k e ∷ ls)) (e ∷ map said_of ls)) ≡ belonging n (own k e ∷ ls)
      go (less h x y) ih = rw (x, y) ih
      go (same h x y) ih =
          let z : earlier n ls ≡ 0 = earlier_none k ls (omega arith) r.1 in
          rw (x, y, z) (ap (λ (xs : List Expected). e ∷ xs) (rw z at ih))
      go (more h x y) ih = rw (x, y, belonging-none k ls h r.1) refl
