-- The constructors of items, of sections and of written priorities, for proofs of crates that depend on this one and do not see them: each
-- as a function, and what holds of each constructor holds of all.
use Rattle.std.proofs.Common.{ℕ, List}
use Rattle.dp_plan.specs.declared.entry.Entry.{Entry}
use Rattle.dp_plan.specs.Item.{Item, Begins, Sets, Adds, Includes, Unknown}
use Rattle.dp_plan.specs.declared.numbering.Written.{Written}
use Rattle.dp_plan.specs.declared.numbering.Written.TheVariants.{Number, TooGreat, Next}
use Rattle.dp_plan.specs.declared.plan.GlobalVariable.{GlobalVariable}
use Rattle.dp_plan.specs.declared.section.Section.{Section}
use Rattle.dp_plan.specs.declared.section.Section.TheVariants.{General, Globals, Context}

-- ---- sections

abbrev pub section_word : Type 0
section_word = Section

abbrev pub general : Section
general = General

abbrev pub globals : Section
globals = Globals

abbrev pub in_context : List ℕ → Section
in_context name = Context name

abbrev pub by_section {ℓ} : (P : Section → Type ℓ) → P General → P Globals → ((name : List ℕ) → P (Context name)) → (section : Section) → P section
by_section P in_general in_globals in_name General = in_general
by_section P in_general in_globals in_name Globals = in_globals
by_section P in_general in_globals in_name (Context name) = in_name name

-- ---- items

abbrev pub item_word : Type 0
item_word = Item

abbrev pub begins : Section → Item
begins section = Begins section

abbrev pub sets : GlobalVariable → Item
sets global = Sets global

abbrev pub adds : ℕ → List ℕ → Entry → Item
adds line context entry = Adds line context entry

abbrev pub includes : ℕ → List ℕ → List ℕ → Item
includes line context name = Includes line context name

abbrev pub unknown_key : ℕ → Item
unknown_key line = Unknown line

abbrev pub by_item {ℓ} : (P : Item → Type ℓ) → ((section : Section) → P (Begins section)) → ((global : GlobalVariable) → P (Sets global))
    → ((line : ℕ) (context : List ℕ) (entry : Entry) → P (Adds line context entry)) → ((line : ℕ) (context name : List ℕ) → P (Includes line context name))
    → ((line : ℕ) → P (Unknown line)) → (x : Item) → P x
by_item P begun set added included other (Begins section) = begun section
by_item P begun set added included other (Sets global) = set global
by_item P begun set added included other (Adds line context entry) = added line context entry
by_item P begun set added included other (Includes line context name) = included line context name
by_item P begun set added included other (Unknown line) = other line

-- ---- written priorities

abbrev pub written_word : Type 0
written_word = Written

abbrev pub number : ℕ → Written
number n = Number n

abbrev pub too_great : Written
too_great = TooGreat

abbrev pub next : Written
next = Next
