-- A run as the functions `outcome` and `scan_outcome` compute it.
use Rattle.std.proofs.Common.{cond, ltb, List, [], ◌∷◌, length}
use Rattle.station.specs.Meaning.{Meaning}
use Rattle.protocol.specs.Hall.{Hall, fresh}
use Rattle.protocol.specs.Call.{Event, call, scan}
use Rattle.protocol.specs.CallFunction.{outcome, scan_outcome, after, after_all}
use Rattle.protocol.specs.Book.{Book, empty, Told, called, scan_served, scan_refused, book_of}

module _ {S : Type 0} where
  abbrev pub hall_after : Meaning S → S → List Event → Hall S
  hall_after M s es = after_all M (fresh s) es

  -- what is told of a hall that works a call or a scan list
  abbrev pub tells : Meaning S → Hall S → Event → Told
  tells M h (call c) = called c (outcome M h c).answer
  tells M h (scan rs) = cond (ltb 64 (length rs)) scan_refused (scan_served (scan_outcome M h rs).records)

  abbrev pub history : Meaning S → Hall S → List Event → List Told
  history M h [] = []
  history M h (e ∷ es) = tells M h e ∷ history M (after M h e) es

  -- the book is fed with that alone
  abbrev pub book_after : Meaning S → S → List Event → Book
  book_after M s es = book_of empty (history M (fresh s) es)
