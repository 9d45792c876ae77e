-- `trimming::white_end` meets its contract: its end is the place that the laws speak of. Assumes nothing.
use Prim.Native.Nat.{ℕ, ◌-◌, ◌≤◌, ◌<◌}
use mathlib.Core.Path.{◌≡◌, ap, ◌∙◌}
use mathlib.Core.List.{List, reverse}
use native.Mathlib.Nat.{le_refl}
use lib.ListN.{get_or, length, take}
use lib.Seq.{take-length}
use borrow.Author.Rules.{rules}
use borrow.Author.Tests.{tests}
use Rattle.text.specs.Trim.{white_bytes, backwards, size_of}
use Rattle.text.proofs.TrimLaws.{before_ascii, before_long, before-inside}
use Rattle.trimming.proofs.white_end.Goals as goal

-- all of it stands before its end
whole : (s : List ℕ) (n : ℕ) → n ≡ size_of (backwards white_bytes) (reverse (take (length s) s)) → n ≡ size_of (backwards white_bytes) (reverse s)
whole s n e = e ∙ ap (λ (t : List ℕ). size_of (backwards white_bytes) (reverse t)) (take-length s)

pub returns-then-is_ascii : goal.returns-then-is_ascii
returns-then-is_ascii c =
    let s = c.args.s.now in
    let h : get_or s (length s - 1) 0 < 0x80 = search (rules, tests) in
    let e = before_ascii s (length s) c.ascii_size.result c.requires (le_refl (length s)) h c.ascii_size.ensures in
    record { value = whole s _ e; upper_bound = before-inside s (length s) _ (le_refl (length s)) e }

pub returns : goal.returns
returns c =
    let s = c.args.s.now in
    let h : 0x80 ≤ get_or s (length s - 1) 0 = search (rules, tests) in
    let e = before_long s (length s) c.back_size.result c.requires (le_refl (length s)) h _ _ c.saturating_sub.result c.last_byte-b.ensures c.saturating_sub.ensures c.last_byte-c.ensures c.back_size.ensures in
    record { value = whole s _ e; upper_bound = before-inside s (length s) _ (le_refl (length s)) e }
