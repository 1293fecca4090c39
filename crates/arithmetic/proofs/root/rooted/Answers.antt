-- `arithmetic::root::rooted` meets its contract.
use native.Mathlib.Omega.{arith}
use native.Mathlib.Nat.{mod-lt, zero-lt-suc}
use mathlib.Core.Path.{◌≡◌, ap, ◌∙◌}
use Prim.Native.Nat.{ℕ, ◌+◌, ◌/◌, ◌%◌}
use Rattle.arithmetic.specs.SquareRoot.{whole_root, radicand}
use Rattle.arithmetic.specs.joints.RootPattern.{pattern}
use Rattle.arithmetic.proofs.RootPatterns.{whole_is, root-small}
use Rattle.arithmetic.proofs.root.rooted.Goals as goal

pub overflow_add-q : goal.overflow_add-q
overflow_add-q c =
    let a = c.args in
    let e = whole_is a.m (a.n % 2) (mod-lt a.n (zero-lt-suc 1)) (c.requires.0, c.requires.1) in
    let s = root-small a.m (a.n % 2) (mod-lt a.n (zero-lt-suc 1)) (c.requires.0, c.requires.1) in
    let r : c.whole_root.result ≡ whole_root 54 (radicand a.m (a.n % 2)) = c.whole_root.ensures ∙ ap (whole_root 54) e in
    omega (arith, r, s)

pub returns : goal.returns
returns c =
    let a = c.args in
    let e = whole_is a.m (a.n % 2) (mod-lt a.n (zero-lt-suc 1)) (c.requires.0, c.requires.1) in
    ap (λ (x : ℕ). pattern a.n ((x + 1) / 2)) (c.whole_root.ensures ∙ ap (whole_root 54) e)
