-- The definitions that the contracts of the re-exported calls use. A crate that depends on `widestring` only cites them
-- from here.
pub use Rattle.wide_forms.specs.EncodingForm
pub use Rattle.wide_forms.specs.Segmentation
pub use Rattle.wide_forms.specs.Items
pub use Rattle.wide_forms.specs.Offsets
pub use Rattle.wide_forms.specs.Range
pub use Rattle.wide_forms.specs.Lossy
pub use Rattle.wide_forms.specs.Lines
pub use Rattle.wide_forms.specs.Texts
pub use Rattle.wide_unit.specs.Nul
pub use Rattle.wide_unit.specs.Unit
pub use Rattle.wide_unit.specs.AnyUnits
pub use Rattle.wide_forms.specs.Utf8
pub use Rattle.wide_forms.specs.CodePoint
pub use Rattle.wide_forms.specs.Searches
pub use Rattle.wide_unit.specs.CommonPrefix
pub use Rattle.wide_unit.specs.CodePoints
pub use Rattle.wide_forms.specs.Statements
pub use Rattle.wide_search.specs.Occurrences
pub use Rattle.wide_search.specs.Lowercased
pub use Rattle.wide_search.specs.Sets
pub use Rattle.wide_search.specs.Substrings as SearchSubstrings
pub use Rattle.wide_search.specs.Cut as SearchCut
pub use Rattle.wide_search.specs.Statements as SearchStatements
pub use Rattle.wide_forms.specs.UnitBytes
pub use Rattle.wide_utferror.specs.Nul as NulOffsets
pub use Rattle.wide_utferror.specs.NulError
pub use Rattle.wide_utferror.specs.UCStringError
pub use Rattle.wide_error.specs.Texts as ErrorTexts
pub use Rattle.wide_utferror.specs.UtfError
pub use Rattle.wide_utferror.specs.Converted
pub use Rattle.wide_iter.specs.Answers
pub use Rattle.wide_iter.specs.Source
pub use Rattle.wide_iter.specs.Sources
pub use Rattle.wide_iter.specs.Over
pub use Rattle.wide_iter.specs.Hints
pub use Rattle.wide_iter.specs.Decoder16
pub use Rattle.wide_iter.specs.Decoder32
pub use Rattle.wide_iter.specs.Lossy as LossyDecoder
pub use Rattle.wide_iter.specs.LossyDecoders
pub use Rattle.wide_iter.specs.LossyWith as LossyDecoderWith
pub use Rattle.wide_iter.specs.Encoder8
pub use Rattle.wide_iter.specs.Encoder16
pub use Rattle.wide_iter.specs.Encoder32
pub use Rattle.wide_ustr.specs.View as UnitView
pub use Rattle.wide_ustr.specs.Iter as UnitIter
pub use Rattle.wide_ustr.specs.Indexed as UnitIndexed
pub use Rattle.wide_ustr.specs.LossyWith as UnitLossyWith
pub use Rattle.wide_ustr.specs.Lines as LinesLeft
pub use Rattle.wide_ustr.specs.LineIndices
pub use Rattle.wide_ustr.specs.Split
pub use Rattle.wide_ustr.specs.Kept
pub use Rattle.wide_ustr.specs.SplitN
pub use Rattle.wide_ustr.specs.SplitMore
pub use Rattle.wide_ustr.specs.SplitBack
pub use Rattle.wide_ustr.specs.SplitInclusive
pub use Rattle.wide_ustr.specs.Matched
pub use Rattle.wide_ustr.specs.MatchesLeft
pub use Rattle.wide_ustr.specs.Sets as UnitSets
pub use Rattle.wide_ustr.specs.SetSplits as UnitSetSplits
pub use Rattle.wide_ustr.specs.Printed
pub use Rattle.wide_ustring.specs.Units
pub use Rattle.wide_ustring.specs.CowUnits
pub use Rattle.wide_ustring.specs.Drain as UnitDrain
pub use Rattle.wide_ustring.specs.Extended
pub use Rattle.wide_ustring.specs.Lends
pub use Rattle.wide_ustring.specs.Taken
pub use Rattle.wide_ucstr.specs.CString
pub use Rattle.wide_ucstr.specs.View as CStringView
pub use Rattle.wide_ucstr.specs.Faults as CStringFaults
pub use Rattle.wide_ucstr.specs.Statements as CStringStatements
pub use Rattle.wide_ucstring.specs.CowCString
pub use Rattle.wide_ucstring.specs.Made
pub use Rattle.wide_ucstring.specs.Rejected
pub use Rattle.wide_utfstr.specs.View
pub use Rattle.wide_utfstr.specs.Iter
pub use Rattle.wide_utfstr.specs.Split as TextSplit
pub use Rattle.wide_utfstr.specs.Sets as TextSets
pub use Rattle.wide_utfstr.specs.SetSplits as TextSetSplits
pub use Rattle.wide_utfstr.specs.Boundaries
pub use Rattle.wide_utfstr.specs.Indexed
pub use Rattle.wide_utfstr.specs.Trim
pub use Rattle.wide_utfstr.specs.Escapes
pub use Rattle.wide_utfstring.specs.CowText
pub use Rattle.wide_utfstring.specs.Drain
pub use Rattle.wide_utfstring.specs.Faults
pub use Rattle.wide_replace.specs.Replaced
pub use Rattle.wide_edit.specs.Step
pub use Rattle.wide_editable.specs.Edited
pub use Rattle.wide_steps.specs.Counted
pub use Rattle.wide_offset_index.specs.Marks
pub use Rattle.wide_editable.specs.Marked
pub use Rattle.wide_bytes.specs.Bytes
pub use Rattle.wide_bytes.specs.Devices
pub use Rattle.wide_bytes.specs.FromRead
pub use Rattle.wide_bytes.specs.FromWrite
pub use Rattle.wide_bytes.specs.Put
pub use Rattle.wide_transcode.specs.Chunks
pub use Rattle.wide_transcode.specs.Run
pub use Rattle.wide_transcode.specs.Transcoded
pub use Rattle.wide_bytes.specs.UnitsOfBytes
pub use Rattle.wide_bytes.specs.Utf16OfBytes
pub use Rattle.wide_include.specs.Include
pub use Rattle.wide_schemes.specs.Wtf8
pub use Rattle.wide_schemes.specs.Wtf8Items
pub use Rattle.wide_schemes.specs.Layouts
pub use Rattle.wide_schemes.specs.Schemes
pub use Rattle.wide_wtf8.specs.Faults as Wtf8Faults
pub use Rattle.wide_wtf8.specs.Statements as Wtf8Statements
pub use Rattle.wide_wtf8.specs.Texts as Wtf8ErrorTexts
pub use Rattle.wide_convert.specs.Texts as ConvertedTexts
pub use Rattle.wide_convert.specs.Positions
pub use Rattle.wide_convert.specs.Steps as ConvertedSteps
pub use Rattle.wide_convert.specs.Converting
pub use Rattle.wide_convert.specs.Converted as ConvertedBytes
pub use Rattle.wide_convert.specs.Streams as ConvertedStreams
pub use Rattle.wide_convert.specs.Printed as ConvertErrorTexts
