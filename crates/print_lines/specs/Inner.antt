-- When a resource has a name to print, how the code has the fields of a line, and how much room they take. None of this is a rule of
-- document 01.
use Rattle.std.specs.Prelude.{ℕ, suc, ◌+◌, ◌<◌, ◌≤◌, List, [], ◌∷◌, ◌++◌, length}
use Rattle.sizes.specs.Sizes.{most_name_bytes}
use Rattle.print_text.specs.Text.{quoted, most_digits, most_signed, decimal, signed, PutIn}
use Rattle.plan_reading.specs.Plan.{plan_of, name_part, Checked}
use Rattle.machine_rules.specs.declared.Answer.{Answer}
use Rattle.machine_rules.specs.declared.Answer.TheVariants.{Granted, Waits, Next, Free as Freed, Left, Ticked, Refused}
use Rattle.print_lines.specs.declared.Word.{Word}
use Rattle.print_lines.specs.declared.Word.TheVariants.{To, Free, Global, Local, Met, Unmet, Yes, No}
use Rattle.print_lines.specs.declared.Field.{Field}
use Rattle.print_lines.specs.declared.Field.TheVariants.{Number, Signed, Name, Says, None}

-- a plan in which resource q has a name
pub record Nameable (f : List ℕ) (q : ℕ) : Type 0 where
  pub plan : Checked f
  pub below : q < (plan_of f).resources

-- an answer that names a resource is one of such a plan
abbrev pub Names : List ℕ → ℕ → Answer → Type 0
Names f q Granted = Nameable f q
Names f q (Waits ahead most) = Nameable f q
Names f q (Next tag) = Nameable f q
Names f q Freed = Nameable f q
Names f q Left = Nameable f q
Names f q (Ticked cuts grants) = Unit {0}
Names f q (Refused code) = Unit {0}

-- what a word says
abbrev pub word_text : Word → List ℕ
word_text To = quoted "to"
word_text Free = quoted "free"
word_text Global = quoted "global"
word_text Local = quoted "local"
word_text Met = quoted "met"
word_text Unmet = quoted "unmet"
word_text Yes = quoted "yes"
word_text No = quoted "no"

-- the text of a field after a space; a name is that of the plan in f
abbrev pub field_text : List ℕ → Field → List ℕ
field_text f (Number n) = quoted " " ++ decimal n
field_text f (Signed z) = quoted " " ++ signed z
field_text f (Name q) = quoted " " ++ name_part f q
field_text f (Says w) = quoted " " ++ word_text w
field_text f None = []

-- the same without the space
abbrev pub value_text : List ℕ → Field → List ℕ
value_text f (Number n) = decimal n
value_text f (Signed z) = signed z
value_text f (Name q) = name_part f q
value_text f (Says w) = word_text w
value_text f None = []

-- the texts of fields, one behind the other
abbrev pub fields_text : List ℕ → List Field → List ℕ
fields_text f [] = []
fields_text f (x ∷ fields) = field_text f x ++ fields_text f fields

-- fields of which at most the first four are there
abbrev pub four_fields : Field → Field → Field → Field → List Field
four_fields a b c d = a ∷ b ∷ c ∷ d ∷ None ∷ None ∷ None ∷ None ∷ []

-- a line of fields; where the fields are written out it computes to the same bytes as `line_text` of their texts
abbrev pub fields_line : List ℕ → List ℕ → List Field → List ℕ
fields_line f word fields = word ++ fields_text f fields ++ quoted "\n"

-- the most bytes of a word
abbrev pub most_word : ℕ
most_word = 6

-- the most bytes that a field takes, with the space before it
abbrev pub room_of : Field → ℕ
room_of (Number n) = suc most_digits
room_of (Signed z) = suc most_signed
room_of (Name q) = suc most_name_bytes
room_of (Says w) = suc most_word
room_of None = 0

-- the same without the space
abbrev pub value_room : Field → ℕ
value_room (Number n) = most_digits
value_room (Signed z) = most_signed
value_room (Name q) = most_name_bytes
value_room (Says w) = most_word
value_room None = 0

-- those of all fields
abbrev pub rooms_of : List Field → ℕ
rooms_of [] = 0
rooms_of (x ∷ fields) = room_of x + rooms_of fields

-- those of a line
abbrev pub line_room : List ℕ → List Field → ℕ
line_room word fields = length word + rooms_of fields + 1

-- what a field asks beside other things: that its name is one of the plan
abbrev pub Asking : List ℕ → Field → Type 0 → Type 0
Asking f (Number n) others = others
Asking f (Signed z) others = others
Asking f (Name q) others = Nameable f q × others
Asking f (Says w) others = others
Asking f None others = others

-- what all fields ask
abbrev pub AllNamed : List ℕ → List Field → Type 0
AllNamed f [] = Unit {0}
AllNamed f (x ∷ fields) = Asking f x (AllNamed f fields)

-- what a field asks, and room for it from `at` on
pub record FieldFits (f l : List ℕ) (at : ℕ) (x : Field) : Type 0 where
  pub named : Asking f x (Unit {0})
  pub room : at + room_of x ≤ length l

-- the same of all fields
pub record FieldsFit (f l : List ℕ) (at : ℕ) (fields : List Field) : Type 0 where
  pub named : AllNamed f fields
  pub room : at + rooms_of fields ≤ length l

-- a line of fields put at `at`, in the room that is reckoned for it
abbrev pub LinePut : (before now : List ℕ) → ℕ → List ℕ → List ℕ → List Field → ℕ → Type 0
LinePut before now at f word fields end = PutIn before now at (line_room word fields) (fields_line f word fields) end
