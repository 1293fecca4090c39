-- Document 01, demand 3, the verdict survives a change of converter: what it says of the Satterthwaite call on the bytes of a record file, over the definitions that the C function
-- promises (the number that it returns, the entry, the bytes that it writes). Under another converter v and the Jacobians are 4 ^ k times what they were, β and β_H 2 ^ k times, each value as f64
-- multiplication gives it.
use Rattle.std.specs.Prelude.{ℕ, ◌*◌, ◌≤◌, ◌≡◌, true, false, List, T, ℤ, nat_abs}
use Rattle.std.specs.Float.{binary64}
use Rattle.std.specs.Float.Ieee.{fits}
use Rattle.arithmetic.specs.Marks.{MarkBears}
use Rattle.arithmetic_cutoffs.specs.declared.Cutoffs.{Cutoffs}
use Rattle.arithmetic_cutoffs.specs.Cutoffs.{document_cutoffs}
use Rattle.records.specs.readers.CutoffTable.{bad_table, cutoffs_in, built_in_table}
use Rattle.records.specs.calls.SatterthwaiteCall.{number, entry, returned, written}
use Rattle.records.specs.format.Layout.{entry_length}
use Rattle.tests.specs.Verdict.{verdict}
use Rattle.converter.specs.Converted.{satterthwaite_change, converted}
use Rattle.converter.specs.AnswerBytes.{SameAnswer}

-- s' is accepted, and its entry has the rank, F and df of the entry of s, none where that has none; the marks may differ
pub record SameVerdict (c : Cutoffs) (s s' : List ℕ) : Type 0 where
  pub accepted : number c s' ≡ 0
  pub same : verdict (entry c s') ≡ verdict (entry c s)

-- P of a file and of what another converter makes of it: every file that is accepted with an entry that bears t, and every k that t covers, 4|k| ≤ t: V moves by 2k, its squares in Jacobi's rotation
-- tests by 4k, and no number of a marked step by more
abbrev pub ParametersBorne : (List ℕ → List ℕ → Type 0) → Cutoffs → Type 0
ParametersBorne P c = (t : ℕ) (s : List ℕ) (k : ℤ) → 4 * nat_abs k ≤ t → number c s ≡ 0 → MarkBears t (entry c s).inside → P s (converted (satterthwaite_change k) s)

-- the same for every file that is accepted with its entry inside, k from -32 to 32
abbrev pub ParametersWith : (List ℕ → List ℕ → Type 0) → Cutoffs → Type 0
ParametersWith P c = (s : List ℕ) (k : ℤ) → nat_abs k ≤ 32 → number c s ≡ 0 → (entry c s).inside ≡ true → P s (converted (satterthwaite_change k) s)

-- the same answer bytes of the call with a table, 24 of them, but for the mark
abbrev pub SameEntryBytes : List ℕ → List ℕ → List ℕ → Type 0
SameEntryBytes lab s s' = SameAnswer entry_length (written lab s) (returned lab s') (written lab s')

-- FROM ONE PREMISE, what the mark bears: in the entry, with any cutoffs of which the one that Jacobi's rotation test reads is an f64 number, and in answer bytes, for each accepted table
abbrev pub SatterthwaiteBorne : Type 0
SatterthwaiteBorne = (c : Cutoffs) → T (fits binary64 c.rotation) → ParametersBorne (SameVerdict c) c

abbrev pub SatterthwaiteBorneAnswer : Type 0
SatterthwaiteBorneAnswer = (lab : List ℕ) → bad_table lab ≡ false → ParametersBorne (SameEntryBytes lab) (cutoffs_in lab)

-- THE THIRD DEMAND, for the Satterthwaite call: in its entry, and in its 24 answer bytes; "for each accepted table" (document 02, "Req 06")
abbrev pub SatterthwaiteDemand : Type 0
SatterthwaiteDemand = (lab : List ℕ) → bad_table lab ≡ false → ParametersWith (SameVerdict (cutoffs_in lab)) (cutoffs_in lab)

abbrev pub SatterthwaiteAnswer : Type 0
SatterthwaiteAnswer = (lab : List ℕ) → bad_table lab ≡ false → ParametersWith (SameEntryBytes lab) (cutoffs_in lab)

-- and of the call without a table, with document 01's cutoffs: the instance at the built-in table
abbrev pub BuiltInEntryAnswer : Type 0
BuiltInEntryAnswer = ParametersWith (SameEntryBytes built_in_table) document_cutoffs
