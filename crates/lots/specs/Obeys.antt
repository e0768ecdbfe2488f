-- What a line of the input answers and does to the store. Assumes nothing.
use Rattle.std.specs.Prelude.{◌≡◌, ℕ, ◌<◌, ◌≤◌, true, false, ◌⊎◌, List, length, take}
use Rattle.commands.specs.declared.Command.{Command}
use Rattle.commands.specs.declared.Command.TheVariants.{Nothing, Unknown, Format, Put, Lookup, Remove, Count, Row, Listing, Check, Counts, Inspect, Report}
use Rattle.commands.specs.declared.SheetLine.{SheetLine}
use Rattle.commands.specs.Lines.{Means, WithinLimits}
use Rattle.ground.specs.Ladder.{Answers}
use Rattle.hash.specs.Fnv.{fnv}
use Rattle.partition.specs.Listing.{listing}
use Rattle.partition.specs.Sizes.{size, shape_for, shape_of}
use Rattle.store.specs.Demands.{Call, check, count, lookup, put, remove, row_at, Made, ok}
use Rattle.store.specs.Pages.{pages, page, read, rows_on, rows_held}
use Rattle.store.specs.Tables.{Out, refused_at, meaning, PageKeeps, inspect_table}
use Rattle.report.specs.Report.{Reported, other, missing, summed, report_table}
use Rattle.sheets.specs.Files.{LinesSay, sheet_rows, other_line}
use Rattle.filling.specs.Filling.{fill_table}
use Rattle.text_lines.specs.Ends.{input_lines}
use Rattle.lots.specs.declared.Outcome.{Outcome}
use Rattle.lots.specs.declared.Outcome.TheVariants.{Silent, Unknown as NotKnown, Told, Changed, Listed, Format as Formats, Stopped}

-- a line that only reads
abbrev pub Untouched : Outcome → Type 0
Untouched Silent = Unit {0}
Untouched NotKnown = Unit {0}
Untouched (Told x) = Unit {0}
Untouched (Listed n) = Unit {0}
Untouched Stopped = Unit {0}
Untouched (Changed x) = ⊥
Untouched (Formats n size) = ⊥

-- an unknown line says so; in each of these Stopped stands for an answer that could not be written
abbrev pub Passes : Outcome → Type 0
Passes NotKnown = Unit {0}
Passes Stopped = Unit {0}
Passes Silent = ⊥
Passes (Told x) = ⊥
Passes (Listed n) = ⊥
Passes (Changed x) = ⊥
Passes (Formats n size) = ⊥

-- a line that reads tells the answer a
abbrev pub TellsOnly : Out → Outcome → Type 0
TellsOnly a (Told x) = meaning x ≡ a
TellsOnly a Stopped = Unit {0}
TellsOnly a Silent = ⊥
TellsOnly a NotKnown = ⊥
TellsOnly a (Listed n) = ⊥
TellsOnly a (Changed x) = ⊥
TellsOnly a (Formats n size) = ⊥

-- a line that writes tells the answer a, and the store counts as changed exactly where that is no refusal
abbrev pub Outcomes : Out → Outcome → Type 0
Outcomes a (Told x) = (meaning x ≡ a) × (ok a ≡ false)
Outcomes a (Changed x) = (meaning x ≡ a) × (ok a ≡ true)
Outcomes a Stopped = Unit {0}
Outcomes a Silent = ⊥
Outcomes a NotKnown = ⊥
Outcomes a (Listed n) = ⊥
Outcomes a (Formats n size) = ⊥

-- n rows, and their number
abbrev pub TellsNumber : ℕ → Outcome → Type 0
TellsNumber n (Listed m) = m ≡ n
TellsNumber n Stopped = Unit {0}
TellsNumber n Silent = ⊥
TellsNumber n NotKnown = ⊥
TellsNumber n (Told x) = ⊥
TellsNumber n (Changed x) = ⊥
TellsNumber n (Formats m size) = ⊥

-- the call c made t of the store s, and its answer is told
pub record Written (c : Call) (s : List ℕ) (o : Outcome) (t : List ℕ) : Type 0 where
  pub answer : Out
  pub made : Made (shape_of s) fnv c s answer t
  pub told : Outcomes answer o

-- the call c reads the store s, and its answer is told
pub record Asked (c : Call) (s : List ℕ) (o : Outcome) : Type 0 where
  pub answer : Out
  pub made : Made (shape_of s) fnv c s answer s
  pub told : TellsOnly answer o

-- row at place n, into a buffer of 64 bytes
pub record RowAsked (n : ℕ) (s : List ℕ) (o : Outcome) : Type 0 where
  pub buffer : List ℕ
  pub long : length buffer ≡ 64
  pub asked : Asked (row_at n buffer) s o

-- the check's refusal, or as many rows as the listing has
pub record ListAsked (s : List ℕ) (o : Outcome) : Type 0 where
  pub answer : Out
  pub made : Made (shape_of s) fnv check s answer s
  pub refused : ok answer ≡ false → TellsOnly answer o
  pub rows : ok answer ≡ true → TellsNumber (length (listing (shape_of s) fnv (rows_held (shape_of s) s))) o

-- r is the length of the store's pages, as it says itself; one too short to say it has no page
pub record PageLength (s : List ℕ) (r : ℕ) : Type 0 where
  pub least : 1 ≤ r
  pub own : 24 ≤ length s → r ≡ size (shape_of s)
  pub short : length s < 24 → length s < r

-- inspection answers a for slot n of the page g, into a buffer of 64 bytes
pub record SlotAsked (g : List ℕ) (n : ℕ) (a : Out) : Type 0 where
  pub buffer : List ℕ
  pub after : List ℕ
  pub long : length buffer ≡ 64
  pub answers : Answers (inspect_table (shape_for (length g)) fnv g n buffer) (a, after)

-- the page g is refused as inspection refuses it, or it has so many rows
pub record PageAsked (g : List ℕ) (o : Outcome) : Type 0 where
  pub refused : (PageKeeps (shape_for (length g)) fnv g → ⊥) → TellsOnly (refused_at 2 0) o
  pub rows : PageKeeps (shape_for (length g)) fnv g → TellsNumber (length (rows_on (read g))) o

-- the store has a page p, at the size that it says
pub record HasPage (s : List ℕ) (p : ℕ) : Type 0 where
  pub said : 24 ≤ length s
  pub within : p < pages (shape_of s) s

-- page p of the store is asked; where there is none the line is unknown
pub record InspectAsked (p : ℕ) (s : List ℕ) (o : Outcome) : Type 0 where
  pub there : HasPage s p → PageAsked (page (shape_of s) s p) o
  pub absent : (HasPage s p → ⊥) → Passes o

-- a report over n rows that answers x: the sums come with the number of rows, any other answer is a refusal
abbrev pub ReportTold : ℕ → Reported → Outcome → Type 0
ReportTold n (summed x) o = TellsNumber n o
ReportTold n (missing p) o = Passes o
ReportTold n (other a) o = Passes o

-- a report on some file: unless one of its lines is of another form, it is the report over the rows of its lines
pub record FileReported (s : List ℕ) (o : Outcome) : Type 0 where
  pub file : List ℕ
  pub said : List SheetLine
  pub says : LinesSay (input_lines file) said
  pub unformed : 1 ≤ other_line 1 said → Passes o
  pub formed : other_line 1 said ≡ 0 → (x : Reported) × (Answers (report_table (shape_of s) fnv s (sheet_rows said)) x × ReportTold (length (sheet_rows said)) x o)

-- a report: no file could be read, or one was
pub record ReportAsked (s : List ℕ) (o : Outcome) : Type 0 where
  pub reads : Untouched o
  pub asked : Passes o ⊎ FileReported s o

-- the counts of the store s are filled in, and the answer is told
pub record CountsAsked (s : List ℕ) (o : Outcome) (t : List ℕ) : Type 0 where
  pub answer : Out
  pub made : Answers (fill_table (shape_of s) fnv s) (answer, t)
  pub told : Outcomes answer o

-- a command on the store s; its code begins the buffer k
abbrev pub Does : List ℕ → Command → List ℕ → Outcome → List ℕ → Type 0
Does k (Put n p m) s o t = Written (put (take n k) p m) s o t
Does k (Remove n) s o t = Written (remove (take n k)) s o t
Does k (Format n size) s o t = (o ≡ Formats n size) × (t ≡ s)
Does k Nothing s o t = (o ≡ Silent) × (t ≡ s)
Does k Unknown s o t = Passes o × (t ≡ s)
Does k (Lookup n) s o t = Asked (lookup (take n k)) s o × (t ≡ s)
Does k Count s o t = Asked count s o × (t ≡ s)
Does k (Row n) s o t = RowAsked n s o × (t ≡ s)
Does k Listing s o t = ListAsked s o × (t ≡ s)
Does k Check s o t = Asked check s o × (t ≡ s)
Does k Counts s o t = CountsAsked s o t
Does k (Inspect n) s o t = InspectAsked n s o × (t ≡ s)
Does k Report s o t = ReportAsked s o × (t ≡ s)

-- the line is a command, whose code has room for 4,096 bytes and whose numbers fit their fields, and that is done
pub record Obeys (line s : List ℕ) (o : Outcome) (t : List ℕ) : Type 0 where
  pub code : List ℕ
  pub long : length code ≡ 4096
  pub command : Command
  pub means : Means line code command
  pub fits : WithinLimits command
  pub does : Does code command s o t
