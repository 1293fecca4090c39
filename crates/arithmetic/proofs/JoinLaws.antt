-- What is used of the join of two marks: that it counts nothing twice, in whatever order, and that `no_mark` counts nothing. What a step's mark is made of, in these
-- words. The laws on sums of products rest on this file alone, so that they hold for any other mark with such a join.
use mathlib.Core.Path.{◌≡◌, refl, sym, ap, ◌∙◌}
use mathlib.Core.Bool.{Bool, true, false, not, ◌&&◌}
use lib.Dec.{T}
use lib.Ieee.{Float, binary64, add, mul}
use Rattle.arithmetic.specs.declared.Marked.{Marked}
use Rattle.arithmetic.specs.Numbers.{is_zero}
use Rattle.arithmetic.specs.Marks.{Mark, no_mark, join_marks, own_mark, in_range, step_mark, lost_product, reported, product_mark, marked_add, marked_mul}
use Rattle.arithmetic.proofs.Operations.{Zero}
use Rattle.arithmetic.proofs.RangeTest.{zero-range}

-- ---- a join
pub record Join {M : Type 0} (none : M) (join : M → M → M) : Type 0 where
  pub unit : (a : M) → join none a ≡ a
  pub assoc : (a b c : M) → join (join a b) c ≡ join a (join b c)
  pub comm : (a b : M) → join a b ≡ join b a
  pub idem : (a : M) → join a a ≡ a

module _ {M : Type 0} {none : M} {join : M → M → M} (J : Join none join) where
  -- nothing joined to a
  pub join-none : (a : M) → join a none ≡ a
  join-none a = J.comm a none ∙ J.unit a

  -- four marks, the middle two in turn
  pub join-swap : (a b c d : M) → join (join a b) (join c d) ≡ join (join a c) (join b d)
  join-swap a b c d =
      J.assoc a b (join c d)
      ∙ ap (join a) (sym (J.assoc b c d) ∙ ap (λ (m : M). join m d) (J.comm b c) ∙ J.assoc c b d)
      ∙ sym (J.assoc a c (join b d))

  -- what was joined last is not counted again
  pub join-again : (a b : M) → join (join a b) b ≡ join a b
  join-again a b = J.assoc a b b ∙ ap (join a) (J.idem b)

  -- nor is what was joined before the last
  pub join-before : (a b c : M) → join (join a (join b c)) b ≡ join a (join b c)
  join-before a b c = J.assoc a (join b c) b ∙ ap (join a) (ap (λ (m : M). join m b) (J.comm b c) ∙ join-again c b ∙ J.comm c b)

  -- One term more. r, c and q are the marks of the factors on the left, of those on the right and of the results so far; x, y those of the new factors; p and l the
  -- product's own mark and its loss; s the new sum's own. All are joined on the left side as the steps do, and on the right side apart.
  pub join-term : (r c q x y p l s : M)
      → join (join (join (join r c) q) (join (join (join x y) (join p l)) p)) s ≡ join (join (join r x) (join c y)) (join (join q (join p l)) s)
  join-term r c q x y p l s =
      ap (λ (m : M). join (join (join (join r c) q) m) s) (join-before (join x y) p l)
      ∙ ap (λ (m : M). join m s) (join-swap (join r c) q (join x y) (join p l) ∙ ap (λ (m : M). join m (join q (join p l))) (join-swap r c x y))
      ∙ J.assoc (join (join r x) (join c y)) (join q (join p l)) s

-- ---- today's marks
and_assoc : (a b c : Bool) → (a && b && c) ≡ (a && (b && c))
and_assoc false b c = refl
and_assoc true b c = refl

and_comm : (a b : Bool) → (a && b) ≡ (b && a)
and_comm false false = refl
and_comm false true = refl
and_comm true false = refl
and_comm true true = refl

and-idem : (a : Bool) → (a && a) ≡ a
and-idem false = refl
and-idem true = refl

pub marks-join : Join no_mark join_marks
marks-join = record { unit = λ a. refl; assoc = and_assoc; comm = and_comm; idem = and-idem }

-- a step's mark: what its operands report, and the result's own
step_is : (a b : Marked) (r : Float) → step_mark a b r ≡ join_marks (join_marks (reported a) (reported b)) (own_mark r)
unfolding step_mark
step_is a b r = ap (λ (m : Mark). join_marks m (own_mark r)) (join-swap marks-join a.inside b.inside (own_mark a.value) (own_mark b.value))

pub add-mark : (a b : Marked) → (marked_add a b).inside ≡ join_marks (join_marks (reported a) (reported b)) (own_mark (add binary64 a.value b.value))
unfolding marked_add
add-mark a b = step_is a b (add binary64 a.value b.value)

pub mul-mark : (a b : Marked)
    → (marked_mul a b).inside ≡ join_marks (join_marks (reported a) (reported b)) (product_mark a.value b.value (mul binary64 a.value b.value))
unfolding marked_mul
mul-mark a b =
    let p = mul binary64 a.value b.value in
    let l = not (lost_product a.value b.value p) in
    ap (λ (m : Mark). join_marks m l) (step_is a b p) ∙ marks-join.assoc (join_marks (reported a) (reported b)) (own_mark p) l

-- ---- what a zero counts
is_true : (b : Bool) → T b → b ≡ true
is_true true h = refl
is_true false h = absurd h

pub zero-own : (x : Float) → Zero x → own_mark x ≡ no_mark
zero-own x z = is_true (in_range x) (zero-range x z)

-- a zero product of a zero is not lost
pub zero-product : (x y p : Float) → T (is_zero x) → Zero p → product_mark x y p ≡ no_mark
unfolding lost_product
zero-product x y p h z = rw (zero-own p z, is_true (is_zero x) h) (kept (is_zero p))
  where
    kept : (b : Bool) → not (b && false) ≡ true
    kept false = refl
    kept true = refl
