-- `adjustment_kr_vcov_adj::information` meets its contract.
use Rattle.adjustment_kr_vcov_adj.proofs.CallLaws.{work-is, ps-call, qs-call, ie-call}
use Rattle.adjustment_work.specs.joints.Work.{zeros}
use mathlib.Core.Path.{ap, ◌∙◌}
use native.Mathlib.Omega.{arith}
use Rattle.adjustment_kr_vcov_adj.proofs.information.Goals as goal

pub ps_of-all_p-requires : goal.ps_of-all_p-requires
ps_of-all_p-requires c =
    let g = c.requires in
    let l = c.fill_os.auto.narrow in
    let m = c.fill_sx.auto.narrow in
    (g.sized.0.high, g.sized.0.few, omega (arith, g.sized.0.parts), omega (arith, g.lent.0.sound.thetas, g.lent.1))

pub qs_of-all_q-requires : goal.qs_of-all_q-requires
qs_of-all_q-requires c =
    let g = c.requires in
    let l = c.fill_os.auto.narrow in
    let m = c.fill_sx.auto.narrow in
    let o = c.fill_hs.auto.work in
    (record { high = g.sized.0.high; few = g.sized.0.few; squares = omega (arith, g.sized.0.squares); parts = omega (arith, g.sized.0.parts) }, omega (arith, g.lent.0.sound.thetas, g.lent.1))

pub ie_of-requires : goal.ie_of-requires
ie_of-requires c =
    let g = c.requires in
    let o = c.fill_hs.auto.work in
    (g.sized.0.high, g.sized.0.few, omega (arith, g.sized.0.squares), omega (arith, g.lent.0.sound.thetas, g.lent.1))

pub shape_of-work : goal.shape_of-work
shape_of-work c = c.fill_hs.auto.work

pub returns : goal.returns
returns c =
    let g = c.requires in
    let a = c.args in
    let hs = c.fill_hs.ensures in
    let sx = c.fill_sx.ensures in
    let os = c.fill_os.ensures in
    let ps = c.ps_of-all_p.ensures in
    let qs = c.qs_of-all_q.ensures in
    let hn = g.sized.0.high in
    let hN = g.lent.0.sound.thetas in record { work_after = work-is a.s _ _ a.k _ _ _ _ _ _ _ _ _ a.work.now _ hn hN g.sized.0.squares g.lent.1 hs; narrow_after = c.clear_all.ensures ∙ ap zeros (c.qs_of-all_q.auto.narrow ∙ c.fill_os.auto.narrow ∙ c.fill_sx.auto.narrow); ps_after = ps-call a.s _ _ a.k _ _ _ _ _ _ _ _ _ a.work.now _ hn hN g.sized.0.squares g.lent.1 hs a.narrow.now _ _ g.sized.0.few g.sized.0.parts sx os _ ps; qs_after = qs-call a.s _ _ a.k _ _ _ _ _ _ _ _ _ a.work.now _ hn hN g.sized.0.squares g.lent.1 hs a.narrow.now _ _ g.sized.0.few g.sized.0.parts sx os _ qs.value; value = ie-call a.s _ _ a.k _ _ _ _ _ _ _ _ _ a.work.now _ hn hN g.sized.0.squares g.lent.1 hs a.narrow.now _ _ g.sized.0.few g.sized.0.parts sx os _ _ _ _ ps qs.value c.ie_of.ensures }
