-- One call of a row: which call it is, and what it leaves of the scratch. Assumes nothing.
use Prim.Native.Nat.{ℕ, ◌≤◌}
use mathlib.Core.Path.{◌≡◌, refl, sym, ap, ◌∙◌}
use mathlib.Core.Logic.{◌≢◌}
use mathlib.Core.List.{List, [], ◌++◌}
use lib.ListN.{length, take, drop}
use lib.Seq.{length-take-le}
use borrow.Author.Tests.{eq-eqb, ne_eqb}
use Rattle.told.specs.Told.{counted}
use Rattle.rows.specs.Rows.{at, info_row, response_row}
use Rattle.script.specs.declared.records.Entry.{Entry}
use Rattle.script.specs.declared.records.Expectation.{Expectation}
use Rattle.script.specs.declared.records.Script.{Script}
use Rattle.script.specs.declared.response.HandshakeInfo.{HandshakeInfo}
use Rattle.script.specs.declared.response.DaemonResponse.{DaemonResponse}
use Rattle.judge.specs.declared.calls.Turn.{Turn}
use Rattle.verdicts.specs.declared.handed.Handed.{Handed}
use Rattle.verdicts.specs.declared.handed.Handed.TheVariants.{Info, Response}
use Rattle.judging.specs.Calls.{Judging, judge, close}
use Rattle.tallies.specs.Answers.{close_answer}
use Rattle.judging.specs.Judge.{Lent, JudgeState, judge_step}
use Rattle.judging.specs.Scratch.{scratch_after}
use Rattle.ranges.proofs.JudgeLaws.{no_entries, no_entries_scratch}
use Rattle.judge.specs.Tally.{tally_of, turned}
use Rattle.calls.specs.CallRows.{handed_of, judging_of, call_of}
use Rattle.judging.specs.Runs.{scratch_call}
use Rattle.judging.proofs.RunLaws.{front_left}

-- what a row judges, where it hands over h
abbrev pub judging : (bytes : List ℕ) → (lists : List (List ℕ)) → (number scratch : ℕ) → Handed → Judging
judging bytes lists number scratch h = record { number = number; handed = h; bytes = bytes; lists = counted lists; scratch = scratch }

module _ (bytes : List ℕ) (lists : List (List ℕ)) (row : List ℕ) where
  pub calls_close : at row 0 ≡ 0 → call_of bytes lists row ≡ close
  unfolding call_of
  calls_close h = rw (eq-eqb (at row 0) 0 h) refl

  pub calls_handshake : at row 0 ≢ 0 → at row 0 ≡ 1 → call_of bytes lists row ≡ judge (judging bytes lists (at row 1) (at row 2) (Info (info_row (drop 3 row))))
  unfolding call_of judging_of handed_of
  calls_handshake g h = rw (ne_eqb (at row 0) 0 g, eq-eqb (at row 0) 1 h) refl

  pub calls_entry : at row 0 ≢ 0 → at row 0 ≢ 1 → call_of bytes lists row ≡ judge (judging bytes lists (at row 1) (at row 2) (Response (response_row (drop 3 row))))
  unfolding call_of judging_of handed_of
  calls_entry g h = rw (ne_eqb (at row 0) 0 g, ne_eqb (at row 0) 1 h) refl

-- ---- what a call leaves

-- the answer, the tally, the verdict list and the scratch after a call
abbrev pub Called : (k : Lent) (s : JudgeState) (bytes : List ℕ) (lists : List (List ℕ)) (row scratch : List ℕ) → Turn → (v scr : List ℕ) → Type 0
Called k s bytes lists row scratch r v scr =
    (turned r v ≡ judge_step k s (call_of bytes lists row))
    × (scr ≡ scratch_call k s (call_of bytes lists row) scratch)

module _ (k : Lent) (s : JudgeState) (bytes : List ℕ) (lists : List (List ℕ)) (row scratch : List ℕ) where
  pub closed : (r : Turn) → at row 0 ≡ 0 → r ≡ record { tally = tally_of s; answer = close_answer s.next s.counts k.script.counts.entries } → Called k s bytes lists row scratch r s.verdicts scratch
  unfolding judge_step scratch_call
  closed r h e = rw (calls_close bytes lists row h, e) (refl, refl)

  module _ (fits : at row 2 ≤ length scratch) (r : Turn) (v part : List ℕ) (h : Handed) (c : call_of bytes lists row ≡ judge (judging bytes lists (at row 1) (at row 2) h)) where
    abbrev lent : List ℕ
    lent = take (at row 2) scratch

    pub judged_by-row : turned r v ≡ judge_step k s (judge (judging bytes lists (at row 1) (length lent) h))
        → part ≡ scratch_after k s (judging bytes lists (at row 1) (length lent) h) lent
        → Called k s bytes lists row scratch r v (part ++ drop (at row 2) scratch)
    judged_by-row e f =
        let l : length lent ≡ at row 2 = length-take-le (at row 2) scratch fits in
        rw c (
          e ∙ ap (λ (n : ℕ). judge_step k s (judge (judging bytes lists (at row 1) n h))) l,
          front_left k s (judging bytes lists (at row 1) (at row 2) h) part scratch (f ∙ ap (λ (n : ℕ). scratch_after k s (judging bytes lists (at row 1) n h) lent) l),
        )

-- an entry
module _ (k : Lent) (s : JudgeState) (bytes : List ℕ) (lists : List (List ℕ)) (row scratch : List ℕ) (fits : at row 2 ≤ length scratch) (t : Turn) (v part : List ℕ) where
  pub entered : at row 0 ≢ 0 → at row 0 ≢ 1 → (r : DaemonResponse) → r ≡ response_row (drop 3 row)
      → turned t v ≡ judge_step k s (judge (judging bytes lists (at row 1) (length (take (at row 2) scratch)) (Response r)))
      → part ≡ scratch_after k s (judging bytes lists (at row 1) (length (take (at row 2) scratch)) (Response r)) (take (at row 2) scratch)
      → Called k s bytes lists row scratch t v (part ++ drop (at row 2) scratch)
  entered g h r q e f = judged_by-row k s bytes lists row scratch fits t v part (Response r) (calls_entry bytes lists row g h ∙ ap (λ (x : DaemonResponse). judge (judging bytes lists (at row 1) (at row 2) (Response x))) (sym q)) e f

-- the handshake: it is judged without the entries
module _ (text : List ℕ) (script : Script) (entries : List Entry) (expectations : List Expectation) (s : JudgeState) (bytes : List ℕ) (lists : List (List ℕ)) (row scratch : List ℕ)
    (fits : at row 2 ≤ length scratch) (t : Turn) (v part : List ℕ) where
  abbrev alone : Lent
  alone = record { text = text; script = script; entries = []; expectations = expectations }

  abbrev whole : Lent
  whole = record { text = text; script = script; entries = entries; expectations = expectations }

  pub handshaken : at row 0 ≢ 0 → at row 0 ≡ 1 → (i : HandshakeInfo) → i ≡ info_row (drop 3 row)
      → turned t v ≡ judge_step alone s (judge (judging bytes lists (at row 1) (length (take (at row 2) scratch)) (Info i)))
      → part ≡ scratch_after alone s (judging bytes lists (at row 1) (length (take (at row 2) scratch)) (Info i)) (take (at row 2) scratch)
      → Called whole s bytes lists row scratch t v (part ++ drop (at row 2) scratch)
  handshaken g h i q e f =
      let n : ℕ = length (take (at row 2) scratch) in
      judged_by-row whole s bytes lists row scratch fits t v part (Info i)
      (calls_handshake bytes lists row g h ∙ ap (λ (x : HandshakeInfo). judge (judging bytes lists (at row 1) (at row 2) (Info x))) (sym q))
      (e ∙ no_entries text script expectations entries i (at row 1) bytes (counted lists) n s)
      (f ∙ no_entries_scratch text script expectations entries i (at row 1) bytes (counted lists) n s (take (at row 2) scratch))
