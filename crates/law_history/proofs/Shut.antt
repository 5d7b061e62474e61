-- A closed store: each call that is lent it answers 3 and changes nothing.
use Prim.Native.Nat.{ℕ}
use mathlib.Core.List.{List}
use mathlib.Core.Bool.{true}
use mathlib.Core.Path.{◌≡◌, refl, ap}
use mathlib.Core.Logic.{◌⊎◌, inl, inr}
use native.Mathlib.Omega.{arith}
use borrow.Author.Tests.{eq-eqb}
use Rattle.model.specs.Words.{store_shape, lent, capacity, pool, root, free_head, free_count, Header}
use Rattle.model.specs.Refusals.{Answer, refused, header_ok, when_open, Outcome}
use Rattle.model.specs.WellFormed.{Chain}
use Rattle.model.specs.Lookup.{try_find_row}
use Rattle.model.specs.Append.{insert_row_page}
use Rattle.model.specs.Prune.{prune_checkpoint_prefix}
use Rattle.model.specs.LeafWalk.{Stepped, next_leaf_of}
use Rattle.model.specs.Release.{Released, destroy, destroy_empty}
use Rattle.model.specs.declared.node.PageEntry.{PageEntry}
use Rattle.model.specs.declared.cursor.RowPageIndexMemCursor.{RowPageIndexMemCursor}
use Rattle.law_formed.proofs.Chains.{chain-low}
use Rattle.model.proofs.Header.{header_is}
use Rattle.law_formed.proofs.Check.{closed}
use Rattle.law_history.specs.Calls.{Loan, with_cursor, with_records, with_pages, Call, append, lookup, prune, seek_row, next_leaf, release, release_empty, check, Reply, reply}

pub shut-header : (w : List ℕ) → Header (capacity w) (pool w) w → root w ≡ pool w → (chain : List ℕ) → Chain (store_shape lent w) (pool w) w (free_head w) chain → free_count w ≡ pool w → header_ok w ≡ true
shut-header w fits e chain linked free =
    header_is w (record { fits = fits; root-low = omega (arith, e); head-low = chain-low (store_shape lent w) (pool w) w (free_head w) chain linked; count_low = omega (arith, free) })

module _ (w : List ℕ) (h : header_ok w ≡ true) (e : root w ≡ pool w) where
  stops : {A : Type 0} (refuse : Answer → A) (a : A) → when_open w refuse a ≡ refuse (refused 3 0)
  stops refuse a = rw (h, eq-eqb (root w) (pool w) e)

  abbrev outcome : Answer → Outcome
  outcome a = record { answer = a; words = w }

  -- replies
  abbrev plain : Loan → Outcome → Reply
  plain m o = record { answer = o.answer; words = o.words; loan = m }

  abbrev asked : Loan → Answer → Reply
  asked m a = record { answer = a; words = w; loan = m }

  abbrev stepped : Loan → Stepped → Reply
  stepped m o = record { answer = o.answer; words = w; loan = with_records (with_cursor m o.cursor) o.list }

  abbrev emptied : Loan → Released → Reply
  emptied m o = record { answer = o.answer; words = o.words; loan = with_pages m o.list }

  shut-find : (q : ℕ) → try_find_row lent w q ≡ refused 3 0
  unfolding try_find_row
  shut-find q = stops (λ (a : Answer). a) _

  shut_insert : (k x : ℕ) → insert_row_page lent w k x ≡ outcome (refused 3 0)
  unfolding insert_row_page
  shut_insert k x = stops outcome _

  shut-prune : (s f : ℕ) (ids : List ℕ) → prune_checkpoint_prefix lent w s f ids ≡ outcome (refused 3 0)
  unfolding prune_checkpoint_prefix
  shut-prune s f ids = stops outcome _

  shut-next : (c : RowPageIndexMemCursor) (x : List PageEntry) → next_leaf_of lent w c x ≡ record { answer = refused 3 0; cursor = c; list = x }
  unfolding next_leaf_of
  shut-next c x = stops (λ (a : Answer). let o : Stepped = record { answer = a; cursor = c; list = x } in o) _

  shut-release : (v : ℕ) (x : List ℕ) → destroy lent w v x ≡ record { answer = refused 3 0; words = w; list = x }
  unfolding destroy
  shut-release v x = stops (λ (a : Answer). let o : Released = record { answer = a; words = w; list = x } in o) _

  shut_empty : destroy_empty lent w ≡ outcome (refused 3 0)
  unfolding destroy_empty
  shut_empty = stops outcome _

  pub shut-told : (m : Loan) (c : Call) → (reply w m c ≡ record { answer = refused 3 0; words = w; loan = m }) ⊎ ((q : ℕ) × (c ≡ seek_row q))
  unfolding reply
  shut-told m (append k x) = inl (ap (plain m) (shut_insert k x))
  shut-told m (lookup q) = inl (ap (asked m) (shut-find q))
  shut-told m (prune s f ids) = inl (ap (plain m) (shut-prune s f ids))
  shut-told m (seek_row q) = inr (q, refl)
  shut-told m next_leaf = inl (ap (stepped m) (shut-next m.cursor m.records))
  shut-told m (release v) = inl (ap (emptied m) (shut-release v m.pages))
  shut-told m release_empty = inl (ap (plain m) shut_empty)
  shut-told m check = inl (ap (asked m) (closed lent w h e))
