-- Document 01, "Bench examples, one statement over the lot" (records/specs/promises/Bench): proved from what each test's own examples and `pulltest`'s file compute to.
use mathlib.Core.Path.{◌≡◌, refl, ap₂, ◌∙◌}
use lib.Ieee.{to_bits}
use Rattle.records.specs.text.Text.{codes, digit, hexadecimal, decimal, number_text, mark_text, fields_text, coefficient_line, test_line, coefficient_lines, refusal_text, lines_text, text_of}
use Rattle.tests.proofs.KenwardRogerBench as series
use Rattle.tests.proofs.DdfBench as parameters
use Rattle.records.specs.promises.Bench.{BenchExamples}
use Rattle.converter_theorems.proofs.PullExample.{pull_entries, pull-accepted, pull-entries}

lines : text_of 0 pull_entries ≡ codes "coef 0 rank 1 F 4022000000000000 df 3ff0000000000000 inside\ntest rank 1 F 4022000000000000 df 3ff0000000000000 inside\n"
unfolding codes digit hexadecimal decimal number_text mark_text fields_text coefficient_line test_line coefficient_lines refusal_text lines_text text_of to_bits
lines = refl

pub lot : BenchExamples
lot = record {
  a = (series.bench).a;
  b = (series.bench).b;
  c = (parameters.bench).c;
  d = (parameters.bench).d;
  e = (parameters.bench).e;
  f = (parameters.bench).f;
  g = (parameters.bench).g;
  h = (series.bench).h;
  i = (parameters.bench).i;
  j = (parameters.bench).j;
  k = (series.bench).k;
  pulltest = ap₂ text_of pull-accepted pull-entries ∙ lines;
}
