-- Each part is put behind those before it: `rows_part` and `part_more`.
use Rattle.std.proofs.Common.{ℕ, ◌+◌, refl, ap, ◌∙◌, length, arith}
use Rattle.folds.proofs.Fronts.{Front, put_front, part_more, rows_part}
use Rattle.plan_rules.proofs.Laws.{counts_facts}
use Rattle.plan_layout.specs.Layout.{tasks_at}
use Rattle.plan_layout.specs.Inner.{task_width, resource_width, section_width}
use Rattle.plan_bytes.specs.Encode.{header_bytes}
use Rattle.plan_bytes.proofs.Put.{header_length_lem, task_length, resource_length, section_length, file_same}
use Rattle.plan_bytes.proofs.put_file.Goals as goal

pub returns : goal.returns
returns c =
    let rows = c.args.rows in
    let names = c.args.names.now in
    let end = c.names_at-names_at.result + length names in
    let header : Front (header_bytes c.args.c end) (tasks_at c.args.c) c.args.buf.now _ =
    put_front c.put_header.ensures (header_length_lem c.args.c end) (omega arith) in
    let f1 =
    rows_part task_width _ (task_length rows.tasks) c.from.result c.resources_at-resources_at.result header c.put_tasks.ensures (omega arith) (omega arith) in
    let f2 =
    rows_part resource_width _ (resource_length rows.lengths) c.from-2.result c.sections_at-sections_at.result f1 c.put_resources.ensures (omega arith) (omega arith) in
    let f3 =
    rows_part section_width _ (section_length rows.sections) c.args.c.sections c.names_at-names_at.result f2 (rw c.from-s.ensures at c.put_sections.ensures) (omega arith) (omega arith) in
    let f4 = part_more names (length names) end f3 c.put_bytes.ensures refl refl (omega arith) in
    f4.bytes ∙ file_same c.args.c rows names _ c.from.ensures c.from-2.ensures (ap (λ (n : ℕ). n + length names) c.names_at-names_at.ensures)
