-- `listing::whole::list` meets its contract. Assumes nothing.
use native.Mathlib.Omega.{arith}
use Rattle.listing.proofs.AnswerLaws.{was_refused, was_read, entries-in_front}
use Rattle.listing.proofs.TopLaws.{refused-lists, script_may, script-lists}
use Rattle.listing.proofs.whole.list.Goals as goal

pub list_script-requires : goal.list_script-requires
list_script-requires c =
    let a = c.args in
    let r = c.read-answer in
    let m = script_may a.text.now _ (was_read _ r.result r.ensures.result_value _ c.in-Ok.is) _ _ (omega arith) (omega arith) in
    record { count_le_expectations = m.0; entries_in_bounds = m.1.0; line_room_in_bounds = m.1.1 }

pub returns-in-Err : goal.returns-in-Err
returns-in-Err c =
    record {
      value = (let a = c.args in
          let r = c.read-answer in
          let p = c.list_refusal in
          refused-lists a.text.now _ (was_refused _ r.result r.ensures.result_value _ c.in-Err.is) a.out.now p.new.out p.result p.auto.out p.ensures.value p.ensures.out_after).0;
      out_after = (let a = c.args in
          let r = c.read-answer in
          let p = c.list_refusal in
          refused-lists a.text.now _ (was_refused _ r.result r.ensures.result_value _ c.in-Err.is) a.out.now p.new.out p.result p.auto.out p.ensures.value p.ensures.out_after).1.0;
      front = (let a = c.args in
          let r = c.read-answer in
          let p = c.list_refusal in
          refused-lists a.text.now _ (was_refused _ r.result r.ensures.result_value _ c.in-Err.is) a.out.now p.new.out p.result p.auto.out p.ensures.value p.ensures.out_after).1.1;
    }

pub returns-in-Ok : goal.returns-in-Ok
returns-in-Ok c =
    record {
      value = (let a = c.args in
          let r = c.read-answer in
          let l = c.list_script in
          let w = was_read _ r.result r.ensures.result_value _ c.in-Ok.is in
          let d = entries-in_front _ r.result r.ensures.result_value _ c.in-Ok.is r.new.entries _ r.ensures.entries_after in
          script-lists a.text.now _ w r.new.entries _ d a.out.now l.new.out l.result l.auto.out l.ensures.value l.ensures.out_after).0;
      out_after = (let a = c.args in
          let r = c.read-answer in
          let l = c.list_script in
          let w = was_read _ r.result r.ensures.result_value _ c.in-Ok.is in
          let d = entries-in_front _ r.result r.ensures.result_value _ c.in-Ok.is r.new.entries _ r.ensures.entries_after in
          script-lists a.text.now _ w r.new.entries _ d a.out.now l.new.out l.result l.auto.out l.ensures.value l.ensures.out_after).1.0;
      front = (let a = c.args in
          let r = c.read-answer in
          let l = c.list_script in
          let w = was_read _ r.result r.ensures.result_value _ c.in-Ok.is in
          let d = entries-in_front _ r.result r.ensures.result_value _ c.in-Ok.is r.new.entries _ r.ensures.entries_after in
          script-lists a.text.now _ w r.new.entries _ d a.out.now l.new.out l.result l.auto.out l.ensures.value l.ensures.out_after).1.1;
    }
