-- RULES 20.1: calls from C that met their contracts, of the functions that print a table, feed it with a capture and check a listing: what was lent and given, the number that came back, and what the lent array holds afterwards.
use Rattle.std.specs.Prelude.{ℕ, ◌≡◌, List}
use contract.Lifetimes.{Lfts}
use denote.Triple.Clauses.{AtExit}
use borrow.Fn.Kinds.{Dens, ended_of}
use Rattle.entries.specs.Sent.{Sent}
use Rattle.addercoil.specs.Blocks.{Both}
use Rattle.addercoil.proofs.blocks.addercoil_feed_block.Kinds as feed-block-kinds
use Rattle.addercoil.proofs.blocks.addercoil_feed_block.Reads as feed-block
use Rattle.addercoil.proofs.tables.addercoil_next.Kinds as next-kinds
use Rattle.addercoil.proofs.tables.addercoil_next.Reads as next
use Rattle.display.proofs.lines.addercoil_header.Kinds as header-kinds
use Rattle.display.proofs.lines.addercoil_header.Reads as header
use Rattle.display.proofs.lines.addercoil_line.Kinds as line-kinds
use Rattle.display.proofs.lines.addercoil_line.Reads as line
use Rattle.display.specs.Handed.{Handed}
use Rattle.display.proofs.listing.addercoil_listing.Kinds as listing-kinds
use Rattle.display.proofs.listing.addercoil_listing.Reads as listing
use Rattle.arbiter.proofs.addercoil_check.Kinds as check-kinds
use Rattle.arbiter.proofs.addercoil_check.Reads as check

-- addercoil_header(table, .., bad, all, line, ..)
pub record Header (table : List ℕ) (bad all : ℕ) (buffer : List ℕ) (back : Sent) : Type 0 where
  pub κs : Lfts 2
  pub args : Dens κs header-kinds.ps
  pub left : AtExit (ended_of 2 header-kinds.ps header-kinds.r) κs
  pub lent : args.0.now ≡ table
  pub counted : args.1.0 ≡ bad
  pub asked : args.1.1.0 ≡ all
  pub into : args.1.1.1.0.now ≡ buffer
  pub leaves : left.1.1.1.0.now ≡ back.array
  pub meets : header.Post κs args back.number left

-- addercoil_listing(table, .., bad, all, order, .., out, .., written, ..)
pub record Listing (table : List ℕ) (bad all : ℕ) (order out written : List ℕ) (back : Handed) : Type 0 where
  pub κs : Lfts 4
  pub args : Dens κs listing-kinds.ps
  pub left : AtExit (ended_of 4 listing-kinds.ps listing-kinds.r) κs
  pub lent : args.0.now ≡ table
  pub counted : args.1.0 ≡ bad
  pub asked : args.1.1.0 ≡ all
  pub sorted_in : args.1.1.1.0.now ≡ order
  pub into : args.1.1.1.1.0.now ≡ out
  pub long_in : args.1.1.1.1.1.0.now ≡ written
  pub leaves_order : left.1.1.1.0.now ≡ back.order
  pub leaves : left.1.1.1.1.0.now ≡ back.out
  pub leaves_written : left.1.1.1.1.1.0.now ≡ back.written
  pub meets : listing.Post κs args back.number left

-- addercoil_line(table, .., key, all, line, ..)
pub record Line (table : List ℕ) (key all : ℕ) (buffer : List ℕ) (back : Sent) : Type 0 where
  pub κs : Lfts 2
  pub args : Dens κs line-kinds.ps
  pub left : AtExit (ended_of 2 line-kinds.ps line-kinds.r) κs
  pub lent : args.0.now ≡ table
  pub its_key : args.1.0 ≡ key
  pub asked : args.1.1.0 ≡ all
  pub into : args.1.1.1.0.now ≡ buffer
  pub leaves : left.1.1.1.0.now ≡ back.array
  pub meets : line.Post κs args back.number left

-- addercoil_next(table, .., key, out, ..)
pub record Next (table : List ℕ) (key : ℕ) (out : List ℕ) (back : Sent) : Type 0 where
  pub κs : Lfts 2
  pub args : Dens κs next-kinds.ps
  pub left : AtExit (ended_of 2 next-kinds.ps next-kinds.r) κs
  pub lent : args.0.now ≡ table
  pub its_key : args.1.0 ≡ key
  pub into : args.1.1.0.now ≡ out
  pub leaves : left.1.1.0.now ≡ back.array
  pub meets : next.Post κs args back.number left

-- addercoil_feed_block(table, .., block, .., bad, out, ..): `back.table` is the table afterwards
pub record FeedBlock (table block : List ℕ) (bad : ℕ) (out : List ℕ) (back : Both) : Type 0 where
  pub κs : Lfts 3
  pub args : Dens κs feed-block-kinds.ps
  pub left : AtExit (ended_of 3 feed-block-kinds.ps feed-block-kinds.r) κs
  pub lent : args.0.now ≡ table
  pub brings : args.1.0.now ≡ block
  pub counted : args.1.1.0 ≡ bad
  pub into : args.1.1.1.0.now ≡ out
  pub leaves_table : left.0.now ≡ back.table
  pub leaves : left.1.1.1.0.now ≡ back.sent.array
  pub meets : feed-block.Post κs args back.sent.number left

-- addercoil_check(capture, .., listing, .., out, ..)
pub record Check (capture listing out : List ℕ) (back : Sent) : Type 0 where
  pub κs : Lfts 3
  pub args : Dens κs check-kinds.ps
  pub left : AtExit (ended_of 3 check-kinds.ps check-kinds.r) κs
  pub of : args.0.now ≡ capture
  pub brings : args.1.0.now ≡ listing
  pub into : args.1.1.0.now ≡ out
  pub leaves : left.1.1.0.now ≡ back.array
  pub meets : check.Post κs args back.number left
