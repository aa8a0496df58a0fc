-- How far the indexes of an element reach, in the words of `rules`.
use Rattle.std.specs.Prelude.{Bool, true, false, ◌&&◌, None, Option, Some}
use Rattle.rules.specs.Last as rules
use Rattle.format_buffer.specs.declared.Scope.{Scope}
use Rattle.format_buffer.specs.declared.Scope.TheVariants.{AsWritten, LastAlone, UpToLast}
use Rattle.format_buffer.specs.declared.Indexing.{Indexing}
use Rattle.format_buffer.specs.declared.Named.{Named}
use Rattle.format_buffer.specs.declared.Count.{Count}
use Rattle.uses.specs.declared.scopes.Scopes.{Scopes}

abbrev pub scope_at : Scope → rules.Scope
scope_at AsWritten = rules.as_written
scope_at LastAlone = rules.last_alone
scope_at UpToLast = rules.up_to_last

-- No N.
abbrev pub both_written : Scopes
both_written = record { occurrences = AsWritten; values = AsWritten }

abbrev pub as_written : Scope → Bool
as_written AsWritten = true
as_written LastAlone = false
as_written UpToLast = false

abbrev pub is_written : Scopes → Bool
is_written s = as_written s.occurrences && as_written s.values

-- How far indexes reach, where there are any.
abbrev pub scope_given : Option Indexing → Scope
scope_given (Some x) = x.scope
scope_given None = AsWritten

-- The scopes of a count; of a name, by whether its entry is a periodic group or in one.
abbrev pub scopes_of_count : Count → Scopes
scopes_of_count c = record { occurrences = scope_given c.index; values = AsWritten }

abbrev pub scopes_of_name : Bool → Named → Scopes
scopes_of_name true n = record { occurrences = scope_given n.occurrences; values = scope_given n.values }
scopes_of_name false n = record { occurrences = AsWritten; values = scope_given n.occurrences }
