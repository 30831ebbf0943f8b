-- What a section that was read names.
use Rattle.folds.proofs.Ground.{ℕ, ◌<◌, true, ◌≡◌, arith}
use Rattle.sizes.specs.Sizes.{most_tasks, most_resources}
use Rattle.plan_rules.specs.declared.SectionRow.{SectionRow}
use Rattle.plan_reading.specs.Plan.{Plan, Valid}
use Rattle.analysis_equations.specs.Sharing.{uses}
use Rattle.analysis_equations.proofs.Laws.{uses_at}

-- section s of the plan, as it was read: of task j, on resource q
pub record SectionRead (p : Plan) (s j q : ℕ) (row : SectionRow) : Type 0 where
  pub below : s < p.sections
  pub told : row ≡ p.section s
  pub task : j ≡ row.task
  pub resource : q ≡ row.resource

-- what it names is there
pub record Names (p : Plan) (j q : ℕ) : Type 0 where
  pub task : j < p.tasks
  pub low : j < most_tasks
  pub there : q < p.resources
  pub resource : q < most_resources
  pub used : uses p j q ≡ true

pub names : {p : Plan} {s j q : ℕ} {row : SectionRow} → Valid p → SectionRead p s j q row → Names p j q
names {p} {s} v r =
    let fits = v.section_fits s r.below in
    rw (r.task, r.resource, r.told)
    (record {
      task = fits.task;
      low = omega (arith, fits.task, v.tasks);
      there = fits.resource;
      resource = omega (arith, fits.resource, v.resources);
      used = uses_at p s r.below;
    })
