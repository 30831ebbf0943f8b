-- The paper's section 2 and document 01, "The unit": who uses which resource, which resources are global, and which tasks of a
-- processor are higher or lower. Tasks, resources, sections and processors are numbered from 0.
use Rattle.std.specs.Prelude.{ℕ, Bool, ◌&&◌, eqb, ltb, leb}
use Rattle.folds.specs.Below.{any_below, count_below}
use Rattle.plan_reading.specs.Plan.{Plan}

module _ (p : Plan) where
  -- the processor and the priority of task i (Section 2; a greater priority is higher)
  abbrev pub processor_of : ℕ → ℕ
  processor_of i = (p.task i).processor

  abbrev pub priority_of : ℕ → ℕ
  priority_of i = (p.task i).priority

  -- section s is one of task i's
  abbrev pub section_by : ℕ → ℕ → Bool
  section_by i s = eqb (p.section s).task i

  -- section s is one of task i's on resource q
  abbrev pub section_on : ℕ → ℕ → ℕ → Bool
  section_on i q s = section_by i s && eqb (p.section s).resource q

  -- task i uses q: it has a section on it
  unfoldable pub uses : ℕ → ℕ → Bool
  uses i q = any_below p.sections (section_on i q)

  -- a task of processor k uses q
  unfoldable pub used_on : ℕ → ℕ → Bool
  used_on k q = any_below p.tasks (λ i. eqb (processor_of i) k && uses i q)

  -- "A resource that tasks of two or more processors use is global; any other is local."
  unfoldable pub global : ℕ → Bool
  global q = leb 2 (count_below p.processors (λ k. used_on k q))

  -- section s is one of task i's on a global resource (the paper's gcs)
  abbrev pub global_by : ℕ → ℕ → Bool
  global_by i s = section_by i s && global (p.section s).resource

  -- j is a task of i's processor with a higher priority; the order is strict, "since a task neither blocks nor delays itself"
  abbrev pub higher : ℕ → ℕ → Bool
  higher i j = eqb (processor_of j) (processor_of i) && ltb (priority_of i) (priority_of j)

  -- and with a lower one
  abbrev pub lower : ℕ → ℕ → Bool
  lower i j = eqb (processor_of j) (processor_of i) && ltb (priority_of j) (priority_of i)
