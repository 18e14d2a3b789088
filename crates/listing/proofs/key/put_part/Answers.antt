use Rattle.codes.specs.Codes.{str}
use Rattle.listing.specs.KeyText.{path_code, pair_code, out_set_code, part_code}
use Rattle.listing.proofs.Writing.{then_written, then_listed}
use Rattle.listing.proofs.key.put_part.Goals as goal

-- one field after the other
pub returns-clause-written : goal.returns-clause-written
unfolding part_code
returns-clause-written c =
    let p = c.args.part.now in
    let end = c.put_list-6.new.to.items in
    then_written c.args.to.now.items c.put.new.to.items end (str p.package) _ c.in_ok-put.ensures.written
    (then_written c.put.new.to.items c.put-2.new.to.items end (path_code p.folder) _ c.in_ok-put-2.ensures.written
    (then_written c.put-2.new.to.items c.put-3.new.to.items end (str p.task) _ c.in_ok-put-3.ensures.written
    (then_listed str c.put-3.new.to.items c.put_list.new.to.items end c.as_slice.result.now p.scripts _ c.in_ok-put_list.ensures.written c.as_slice.ensures
    (then_listed str c.put_list.new.to.items c.put_list-2.new.to.items end c.as_slice-2.result.now p.args _ c.in_ok-put_list-2.ensures.written c.as_slice-2.ensures
    (then_written c.put_list-2.new.to.items c.put-4.new.to.items end (out_set_code p.outs) _ c.in_ok-put-4.ensures.written
    (then_listed pair_code c.put-4.new.to.items c.put_list-3.new.to.items end c.as_slice-3.result.now p.env _ c.in_ok-put_list-3.ensures.written c.as_slice-3.ensures
    (then_listed path_code c.put_list-3.new.to.items c.put_list-4.new.to.items end c.as_slice-4.result.now p.inputs _ c.in_ok-put_list-4.ensures.written c.as_slice-4.ensures
    (then_listed pair_code c.put_list-4.new.to.items c.put_list-5.new.to.items end c.as_slice-5.result.now p.externals _ c.in_ok-put_list-5.ensures.written c.as_slice-5.ensures c.in_ok-put_list-6.ensures.written))))))))
