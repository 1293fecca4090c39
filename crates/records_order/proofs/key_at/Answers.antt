-- `records_order::key_at` meets its contract.
use native.Mathlib.Omega.{arith}
use Rattle.records_order.specs.joints.Keys.{key_of}
use Rattle.records_order.proofs.key_at.Goals as goal

pub returns : goal.returns
unfolding key_of
returns c = (cc, omega arith)
