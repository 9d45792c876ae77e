-- The laws of lines that the proofs of callers cite: the lines from a place on are the line there and the lines from where that one says the next begins.
-- Assumes nothing.
use Prim.Native.Nat.{ℕ, zero, suc, ◌+◌, ◌-◌, ◌≤◌, ◌<◌}
use mathlib.Core.Path.{◌≡◌, refl, ap, ◌∙◌}
use mathlib.Core.Bool.{Bool, true, false}
use mathlib.Core.List.{List, [], ◌∷◌}
use native.Mathlib.Omega.{arith}
use native.Mathlib.Nat.{le_refl, add-zero, add-sub_cancel, add-sub_cancel_left}
use lib.Dec.{eqb, leb}
use lib.ListN.{length, get_or, drop, length-drop, length-take}
use lib.Seq.{drop-nil, drop-drop}
use borrow.Author.Tests.{eq-eqb, ne_eqb, lt-ltb, le-ltb, leb-true, leb-false}
use Rattle.text.proofs.Scan.{by_cases, rest-none, rest_more, shift}
use Rattle.std.specs.Prelude.{if◌then◌else◌}
use Rattle.text.specs.Base.{LF, CR}
use Rattle.text.specs.declared.lines.Line.{Line}
use Rattle.text.specs.Lines.{line, line_from, line_at, lines_from, lines, line_bytes, trimmed_length}
use Rattle.text.specs.Trim.{trimmed}
use Rattle.text.proofs.TrimLaws.{trimmed-fits}
use Rattle.text.specs.LinesWalk.{end_at}
use Rattle.text.specs.Skip.{Without}

-- ---- the walk by places: the line that began at start, from place i on

-- after a byte of the line, its end is the walk's
end_on : (text : List ℕ) (start i : ℕ) → start ≤ i → end_at text start (i + 1) ≡ (if eqb (get_or text i 0) CR then i else i + 1)
unfolding end_at
end_on text start i h = rw (lt-ltb start (i + 1) (omega arith), add-sub_cancel i 1)

-- a line that has no byte yet ends where it begins
pub end_begun : (text : List ℕ) (start : ℕ) → end_at text start start ≡ start
unfolding end_at
end_begun text start = rw (le-ltb start start (omega arith))

module _ (text : List ℕ) (number start i : ℕ) (whole : Line) where
  abbrev pub Here : Type 0
  Here = line_from number start i (end_at text start i) (drop i text) ≡ whole

  pub over : length text ≤ i → Here → line number start i i ≡ whole
  unfolding line_from
  over h e = rw (rest-none text i h) at e

  pub at_lf : i < length text → get_or text i 0 ≡ 10 → Here → (l : Line) → l ≡ line number start (end_at text start i) (i + 1) → l ≡ whole
  unfolding line_from
  at_lf h x e l q = q ∙ (rw (rest_more text i h, x) at e)

  pub at_other : start ≤ i → i < length text → (get_or text i 0 ≡ 10 → ⊥) → Here → line_from number start (i + 1) (end_at text start (i + 1)) (drop (i + 1) text) ≡ whole
  unfolding line_from
  at_other b h n e = rw (end_on text start i b) (rw (rest_more text i h, ne_eqb _ _ n) at e)

-- ---- a stretch without an LF

-- the walk passes it
passes : (text : List ℕ) (number start k i : ℕ) → start ≤ i → (0 < k → i + k ≤ length text) → Without LF text i (i + k)
    → line_from number start (i + k) (end_at text start (i + k)) (drop (i + k) text) ≡ line_from number start i (end_at text start i) (drop i text)
unfolding Without
passes text number start zero i h g p = rw (add-zero i)
passes text number start (suc k) i h g p =
    let l = g (omega arith) in
    let e : i + suc k ≡ i + 1 + k = omega arith in
    let q : Without LF text (i + 1) (i + 1 + k) = λ m b c. p m (omega arith) (omega arith) in
    rw e (passes text number start k (i + 1) (omega arith) (λ z. omega arith) q)
    ∙ at_other text number start i _ h (omega arith) (p i (omega arith) (omega arith)) refl

pub begun : (text : List ℕ) (number at r : ℕ) → at ≤ r → (at < r → r ≤ length text) → Without LF text at r
    → line_from number at r (end_at text at r) (drop r text) ≡ line_at text at number
unfolding line_at
begun text number at r h g p =
    let e : at + (r - at) ≡ r = omega arith in
    (rw e at (passes text number at (r - at) at (le_refl at) (rw e (λ z. g (omega arith))) (rw e p))) ∙ rw (end_begun text at)

-- the line from `at` on, by where its LF stands
module _ (text : List ℕ) (at number : ℕ) where
  pub first_lf : (lf : ℕ) → Without LF text at lf → at ≤ lf → lf < length text → get_or text lf 0 ≡ LF → line number at (end_at text at lf) (lf + 1) ≡ line_at text at number
  first_lf lf w p h x = at_lf text number at lf _ h x (begun text number at lf p (λ _. omega arith) w) _ refl

  pub no_lf : (end : ℕ) → end ≡ length text → Without LF text at end → at < end → line number at end end ≡ line_at text at number
  no_lf end e w p = over text number at end _ (omega arith) (begun text number at end (omega arith) (λ _. omega arith) w)

  pub at_end : (end : ℕ) → end ≡ at → length text ≤ at → line number at end end ≡ line_at text at number
  unfolding Without
  at_end end e h = rw e (over text number at at _ h (begun text number at at (le_refl at) (λ l. absurd (omega arith)) (λ k l m x. absurd (omega arith))))

-- ---- the lines as a list

-- the lines from `at` on, the first of them called by the number
abbrev pub lines_at : List ℕ → (at number : ℕ) → List Line
lines_at text at number = lines_from number at at at (drop at text)

-- where the line at hand ends if an LF comes after the byte x at `at`
abbrev on : (x at : ℕ) → ℕ
on x at = if eqb x CR then at else at + 1

module _ (number start : ℕ) where
  -- the next line begins no sooner than here, and no later than the end
  next_of : (rest : List ℕ) (at end : ℕ) → (at ≤ (line_from number start at end rest).next) × ((line_from number start at end rest).next ≤ at + length rest)
  unfolding line_from
  next_of [] at end = (omega arith, omega arith)
  next_of (x ∷ rest) at end =
      let ih = next_of rest (at + 1) (on x at) in
      by_cases (λ (l : Line). (at ≤ l.next) × (l.next ≤ at + suc (length rest))) (eqb x LF) _ _ (omega arith) (omega arith)

  later : (x : ℕ) (rest : List ℕ) (at end : ℕ) → at < (line_from number start at end (x ∷ rest)).next
  unfolding line_from
  later x rest at end =
      let ih = next_of rest (at + 1) (on x at) in
      by_cases (λ (l : Line). at < l.next) (eqb x LF) _ _ (omega arith) (omega arith)

  -- a line ends no sooner than it begins, and no later than the end
  end_of : (rest : List ℕ) (at end : ℕ) → start ≤ end → end ≤ at → (start ≤ (line_from number start at end rest).end) × ((line_from number start at end rest).end ≤ at + length rest)
  unfolding line_from
  end_of [] at end p q = (omega arith, omega arith)
  end_of (x ∷ rest) at end p q =
      by_cases (λ (l : Line). (start ≤ l.end) × (l.end ≤ at + suc (length rest))) (eqb x LF) _ _ (omega arith)
      (by_cases (λ (e : ℕ). (start ≤ (line_from number start (at + 1) e rest).end) × ((line_from number start (at + 1) e rest).end ≤ at + suc (length rest))) (eqb x CR) at (at + 1)
      (let ih = end_of rest (at + 1) at (omega arith) (omega arith) in omega arith)
      (let ih = end_of rest (at + 1) (at + 1) (omega arith) (omega arith) in omega arith))

  -- and no later than the next line begins
  end_by_next : (rest : List ℕ) (at end : ℕ) → end ≤ at → (line_from number start at end rest).end ≤ (line_from number start at end rest).next
  unfolding line_from
  end_by_next [] at end q = omega arith
  end_by_next (x ∷ rest) at end q =
      by_cases (λ (l : Line). l.end ≤ l.next) (eqb x LF) _ _ (omega arith)
      (end_by_next rest (at + 1) (on x at) (by_cases (λ (e : ℕ). e ≤ at + 1) (eqb x CR) at (at + 1) (omega arith) (omega arith)))

  start_of : (rest : List ℕ) (at end : ℕ) → (line_from number start at end rest).start ≡ start
  unfolding line_from
  start_of [] at end = refl
  start_of (x ∷ rest) at end = by_cases (λ (l : Line). l.start ≡ start) (eqb x LF) _ _ refl (start_of rest (at + 1) (on x at))

  number_of : (rest : List ℕ) (at end : ℕ) → (line_from number start at end rest).number ≡ number
  unfolding line_from
  number_of [] at end = refl
  number_of (x ∷ rest) at end = by_cases (λ (l : Line). l.number ≡ number) (eqb x LF) _ _ refl (number_of rest (at + 1) (on x at))

abbrev Step : (number at : ℕ) → Line → List ℕ → List Line → Type 0
Step number at l rest ls = ls ≡ l ∷ lines_from (number + 1) l.next l.next l.next (drop (l.next - at) rest)

first-line : (number start : ℕ) (rest : List ℕ) (at end : ℕ) → start ≤ at → start < at + length rest
    → Step number at (line_from number start at end rest) rest (lines_from number start at end rest)
unfolding line_from lines_from
first-line number start [] at end le lt = rw (ne_eqb start at (omega arith), drop-nil, eq-eqb at at refl)
first-line number start (x ∷ rest) at end le lt =
    go (eqb x LF) (on x at) (first-line number start rest (at + 1) (on x at) (omega arith) (omega arith)) (next_of number start rest (at + 1) (on x at))
  where
    go : (b : Bool) (end' : ℕ) → Step number (at + 1) (line_from number start (at + 1) end' rest) rest (lines_from number start (at + 1) end' rest)
        → (at + 1 ≤ (line_from number start (at + 1) end' rest).next) × ((line_from number start (at + 1) end' rest).next ≤ at + 1 + length rest)
        → Step number at (if b then line number start end (at + 1) else line_from number start (at + 1) end' rest) (x ∷ rest)
        (if b then line number start end (at + 1) ∷ lines_from (number + 1) (at + 1) (at + 1) (at + 1) rest else lines_from number start (at + 1) end' rest)
    go true end' ih nx = rw (add-sub_cancel_left at 1)
    go false end' ih nx = rw (← shift x rest at (line_from number start (at + 1) end' rest).next nx.0) ih

lines_more : (text : List ℕ) (at number : ℕ) → at < length text
    → lines_at text at number ≡ line_at text at number ∷ lines_at text (line_at text at number).next (number + 1)
unfolding line_at
lines_more text at number h =
    let l : Line = line_from number at at at (drop at text) in
    let nx = next_of number at (drop at text) at at in
    let e : at + (l.next - at) ≡ l.next = omega arith in
    first-line number at (drop at text) at at (le_refl at) (simp length-drop (omega arith))
    ∙ ap (λ (r : List ℕ). l ∷ lines_from (number + 1) l.next l.next l.next r) (drop-drop (l.next - at) at text ∙ ap (λ (k : ℕ). drop k text) e)

-- at the end there is no line
pub lines_none : (text : List ℕ) (at number : ℕ) → length text ≤ at → lines_at text at number ≡ []
unfolding lines_from
lines_none text at number h = rw (rest-none text at h, eq-eqb at at refl)

-- what a walk needs of the line at a place that is no end
pub record Known (text : List ℕ) (at number : ℕ) (l : Line) : Type 0 where
  pub called : l.number ≡ number
  pub begins : l.start ≡ at
  pub forward : l.start ≤ l.end
  pub inside : l.end ≤ length text
  pub ends : l.end ≤ l.next
  pub later : at < l.next
  pub within : l.next ≤ length text
  pub more : lines_at text at number ≡ l ∷ lines_at text l.next (number + 1)

known_here : (text : List ℕ) (at number : ℕ) → at < length text → Known text at number (line_at text at number)
unfolding line_at
known_here text at number h =
    let e = end_of number at (drop at text) at at (le_refl at) (le_refl at) in
    let s = start_of number at (drop at text) at at in
    let d = length-drop at text in
    let n = next_of number at (drop at text) at at in
    record {
      called = number_of number at (drop at text) at at;
      begins = s;
      forward = omega arith;
      inside = omega arith;
      ends = end_by_next number at (drop at text) at at (le_refl at);
      later = rw (rest_more text at h) (later number at (get_or text at 0) (drop (at + 1) text) at at);
      within = omega arith;
      more = lines_more text at number h;
    }

pub known : (text : List ℕ) (at number : ℕ) (l : Line) → at < length text → l ≡ line_at text at number → Known text at number l
known text at number l h e = rw e (known_here text at number h)

-- ---- all the lines of a text

-- each lies in it
abbrev pub AllIn : List ℕ → List Line → Type 0
AllIn text [] = Unit {0}
AllIn text (l ∷ ls) = (l.start ≤ l.end) × (l.end ≤ length text) × AllIn text ls

-- so they are, and no more than its bytes, nor have they more bytes once they are trimmed
abbrev Listed : (text : List ℕ) (at : ℕ) → List Line → Type 0
Listed text at ls = AllIn text ls × (length ls ≤ length text - at) × (trimmed_length text ls ≤ length text - at)

trimmed-line : (text : List ℕ) (l : Line) → length (trimmed (line_bytes text l)) ≤ l.end - l.start
trimmed-line text l = omega (arith, trimmed-fits (line_bytes text l), length-take (l.end - l.start) (drop l.start text))

one_more : (text : List ℕ) (at number : ℕ) → ((next n : ℕ) → at < next → next ≤ length text → Listed text next (lines_at text next n)) → Listed text at (lines_at text at number)
unfolding trimmed_length
one_more text at number ih = go (leb (length text) at) refl
  where
    go : (b : Bool) → leb (length text) at ≡ b → Listed text at (lines_at text at number)
    go true e = rw (lines_none text at number (leb-true (length text) at e)) (tt, omega arith, omega arith)
    go false e =
        let k = known_here text at number (leb-false (length text) at e) in
        let i = ih (line_at text at number).next (number + 1) k.later k.within in
        let l = line_at text at number in
        rw k.more ((k.forward, k.inside, i.0), omega (arith, i.1, k.later, k.within), omega (arith, i.2, k.later, k.within, k.begins, k.forward, k.ends, trimmed-line text l))

listed : (text : List ℕ) (n at number : ℕ) → length text ≤ at + n → Listed text at (lines_at text at number)
listed text zero at number h = one_more text at number (λ next m l k. absurd (omega arith))
listed text (suc n) at number h = one_more text at number (λ next m l k. listed text n next m (omega arith))

pub lines_in : (text : List ℕ) → AllIn text (lines text)
unfolding lines
lines_in text = (listed text (length text) 0 1 (omega arith)).0

pub lines_few : (text : List ℕ) → length (lines text) ≤ length text
unfolding lines
lines_few text = omega (arith, (listed text (length text) 0 1 (omega arith)).1)

pub trimmed_few : (text : List ℕ) → trimmed_length text (lines text) ≤ length text
unfolding lines
trimmed_few text = omega (arith, (listed text (length text) 0 1 (omega arith)).2)

-- The numbers of a walk over lines, for `search` to use: the line is a part of the text, the measure falls, and what is at most `at` stays at most the next place.
module _ (text : List ℕ) (at number : ℕ) (l : Line) (e : l ≡ line_at text at number) (h : at < length text) where
  pub forward : l.start ≤ l.end
  forward = (known text at number l h e).forward

  pub inside : l.end ≤ length text
  inside = (known text at number l h e).inside

  pub next_in : l.next ≤ length text
  next_in = (known text at number l h e).within

  pub falls : length text - l.next < length text - at
  falls = omega (arith, (known text at number l h e).later)

  pub grows : (n : ℕ) → n ≤ at → n + 1 ≤ l.next
  grows n b = omega (arith, (known text at number l h e).later)

  pub grows_1 : (n : ℕ) → n ≤ at + 1 → n + 1 ≤ l.next + 1
  grows_1 n b = omega (arith, (known text at number l h e).later)

  pub stays : (n : ℕ) → n ≤ at → n ≤ l.next
  stays n b = omega (arith, (known text at number l h e).later)

pub ruleset line_steps = (forward, inside, next_in, falls, grows, grows_1, stays)
