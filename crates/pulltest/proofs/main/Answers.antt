-- `pulltest::main` meets its contract.
use mathlib.Core.Path.{◌≡◌, sym}
use native.Mathlib.Omega.{arith}
use lib.ListN.{length}
use lib.Seq.{length-sets, length-take-le}
use borrow.Author.Rules.{rules}
use Rattle.pulltest.proofs.main.Goals as goal

pub slice_bounds-out-end : goal.slice_bounds-out-end
slice_bounds-out-end c =
    let e : length c.text_arrived-m.new.out ≡ 512 = rw (c.text_arrived-m.ensures.stored, length-sets) in
    omega (arith, c.text_arrived-m.ensures.moved, c.text_arrived-m.ensures.short)

pub slice_bounds-write_all-end : goal.slice_bounds-write_all-end
slice_bounds-write_all-end c = sym (length-take-le c.text_arrived-m.result c.text_arrived-m.new.out ((let e : length c.text_arrived-m.new.out ≡ 512 = rw (c.text_arrived-m.ensures.stored, length-sets) in
    omega (arith, c.text_arrived-m.ensures.moved, c.text_arrived-m.ensures.short))))
