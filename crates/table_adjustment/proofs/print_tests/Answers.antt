-- `table_adjustment::print_tests` meets its contract.
use mathlib.Core.Path.{◌≡◌, sym}
use lib.Seq.{length-sets, length-take-le}
use lib.ListN.{length}
use native.Mathlib.Omega.{arith}
use Rattle.table_adjustment.proofs.print_tests.Goals as goal

pub slice_bounds-out-end : goal.slice_bounds-out-end
slice_bounds-out-end c =
    let e : length c.text-n.new.out ≡ 512 = rw (c.text-n.ensures.stored, length-sets) in
    omega (arith, c.text-n.ensures.moved, c.text-n.ensures.short)

pub slice_bounds-write_all-end : goal.slice_bounds-write_all-end
slice_bounds-write_all-end c = sym (length-take-le c.text-n.result c.text-n.new.out ((let e : length c.text-n.new.out ≡ 512 = rw (c.text-n.ensures.stored, length-sets) in
    omega (arith, c.text-n.ensures.moved, c.text-n.ensures.short))))
