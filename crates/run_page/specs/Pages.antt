-- The page of a document. Its two parts are the bytes that page/make.py makes from the files of page/.
use Rattle.std.specs.Prelude.{◌++◌, ℕ, List}
use Rattle.run_page.specs.declared.bytes.TheConstants.{HEAD, TAIL}

-- the page up to the document
unfoldable pub page_head : List ℕ
page_head = HEAD.now

-- the page after the document
unfoldable pub page_tail : List ℕ
page_tail = TAIL.now

-- the page up to the document, the document as it is, and the rest
abbrev pub page_text : List ℕ → List ℕ
page_text document = page_head ++ document ++ page_tail
