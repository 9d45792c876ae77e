-- `written::Writer::put_by` meets its contract: what f is lent is all that is before the writer. Assumes nothing.
use mathlib.Core.Path.{refl}
use native.Mathlib.Omega.{arith}
use borrow.Author.Rules.{rules}
use Rattle.std.specs.Fn.{FnOnceReturnsAtMut}
use Rattle.written.specs.Writing.{before}
use Rattle.written.proofs.WriterLaws.{lent_before, wrote_over}
use Rattle.written.proofs.Writer+u8.put_by.Goals as goal

pub overflow_add-self : goal.overflow_add-self
overflow_add-self g c =
    let w = c.args.self.now in
    let ran : FnOnceReturnsAtMut g.F.FnOnce c.args.f (before w) c.f-n.result c.f-n.new.arg2 = record { shown = _; shows = lent_before w; left = _; met = c.f-n.ensures; leaves = refl } in
    let fits = c.requires.fits in
    let count = (fits.1 _ _ ran).0 in
    let room = fits.2 in
    search rules

pub returns : goal.returns
returns g c = λ xs over.
    let w = c.args.self.now in
    let ran : FnOnceReturnsAtMut g.F.FnOnce c.args.f (before w) c.f-n.result c.f-n.new.arg2 = record { shown = _; shows = lent_before w; left = _; met = c.f-n.ensures; leaves = refl } in
    let fits = c.requires.fits in
    let count = (fits.1 _ _ ran).0 in
    let laid = over _ _ ran in
    (laid.0, wrote_over w _ _ _ laid.0 laid.1 (omega (arith, laid.0, count, fits.2)))
