-- The lines of the entries, one behind the other. Assumes nothing.
use Prim.Native.Nat.{ℕ, ◌+◌, ◌*◌, ◌≤◌, ◌<◌}
use mathlib.Core.Path.{◌≡◌, refl, sym, ap, ◌∙◌}
use mathlib.Core.List.{List, [], ◌∷◌, ◌++◌, append_assoc, append-nil}
use native.Mathlib.Numerals.{add-one}
use native.Mathlib.Omega.{arith}
use lib.ListN.{length, take, get_or}
use lib.Seq.{take-suc, take_all, length-take-le}
use Rattle.script.specs.declared.records.Entry.{Entry}
use Rattle.script.specs.declared.records.Script.{Script}
use Rattle.written.specs.declared.Writer.{Writer}
use Rattle.written.specs.Writing.{Room, wrote}
use Rattle.written.proofs.WriterLaws.{wrote_none}
use Rattle.printed.specs.Listing.{header_line, entry_line, entry_lines}
use Rattle.printed.proofs.PutLaws.{Put, put_room, put_then}

lines-append : (xs ys : List Entry) → entry_lines (xs ++ ys) ≡ entry_lines xs ++ entry_lines ys
unfolding entry_lines
lines-append [] ys = refl
lines-append (x ∷ xs) ys = ap (λ (zs : List ℕ). entry_line x ++ zs) (lines-append xs ys) ∙ sym (append_assoc (entry_line x) (entry_lines xs) (entry_lines ys))

lines_one : (e : Entry) → entry_lines (e ∷ []) ≡ entry_line e
unfolding entry_lines
lines_one e = append-nil (entry_line e)

-- the line of one entry more
lines_more : (es : List Entry) (i : ℕ) (d : Entry) → i < length es → entry_lines (take (i + 1) es) ≡ entry_lines (take i es) ++ entry_line (get_or es i d)
lines_more es i d h =
    ap (λ (k : ℕ). entry_lines (take k es)) (add-one i)
    ∙ ap entry_lines (take-suc es i d h)
    ∙ lines-append (take i es) (get_or es i d ∷ [])
    ∙ ap (λ (zs : List ℕ). entry_lines (take i es) ++ zs) (lines_one (get_or es i d))

-- the lines of the first i entries are written, each in at most 63 bytes
module _ (es : List Entry) (i : ℕ) (w v : Writer ℕ) (p : Put (entry_lines (take i es)) (i * 63) w v) (room : Room (length es * 63) w) where
  -- all are
  pub printed_all : i ≡ length es → Put (entry_lines es) (length es * 63) w v
  printed_all h = (
    p.0 ∙ ap (λ (l : List Entry). wrote (entry_lines l) w) (take_all i es (omega arith)),
    omega (arith, p.1),
  )

  module _ (h : i < length es) where
    -- there is room for one more
    pub printed_room : Room 63 v
    printed_room = put_room _ (i * 63) w v p 63 (omega arith)

    pub printed_more : (e : Entry) (u : Writer ℕ) → e ≡ get_or es i e → Put (entry_line e) 63 v u → Put (entry_lines (take (i + 1) es)) ((i + 1) * 63) w u
    printed_more e u k q =
        let z = put_then _ (i * 63) w v p (entry_line e) 63 u q (omega arith) in (
          z.0 ∙ ap (λ (xs : List ℕ). wrote xs w) (ap (λ (x : Entry). entry_lines (take i es) ++ entry_line x) k ∙ sym (lines_more es i e h)),
          omega (arith, z.1),
        )

-- none is written yet
pub printed_none : (w : Writer ℕ) → Put (entry_lines []) (0 * 63) w w
unfolding entry_lines
printed_none w = (wrote_none w, omega arith)

-- the first line, then those of the entries
module _ (s : Script) (es : List Entry) (n : ℕ) (w v : Writer ℕ) (h : n ≤ length es) (room : Room (139 + n * 63) w) (p : Put (header_line s) 139 w v) where
  pub entries_room : Room (length (take n es) * 63) v
  entries_room = let l = length-take-le n es h in omega (arith, put_room _ 139 w v p (n * 63) room)

  pub script_put : (u : Writer ℕ) → Put (entry_lines (take n es)) (length (take n es) * 63) v u → u ≡ wrote (header_line s ++ entry_lines (take n es)) w
  script_put u q = let l = length-take-le n es h in (put_then _ 139 w v p (entry_lines (take n es)) (n * 63) u (q.0, omega (arith, q.1)) room).0
